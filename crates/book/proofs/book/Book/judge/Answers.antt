use Rattle.std.proofs.Common.{arith}
use Rattle.std.proofs.lemmas.Result.{err_from_is_err_and}
use Rattle.book.specs.Records.{store}
use Rattle.book.proofs.Tested.{tested}
use Rattle.book.proofs.Shown.{version_root}
use Rattle.book.proofs.EditRows.{begins, version_closed, version_stops, version_stops_long, version_accepted, piece_accepted, cut_accepted, crop_accepted}
use Rattle.book.proofs.book.Book.judge.Goals as goal

pub piece-requires-clause-few : goal.piece-requires-clause-few
piece-requires-clause-few c =
    let b = c.args.self.now in
    (tested (store b.nodes.now b.places) b.contents b.sound).orderly.few

pub piece-requires-clause-lens : goal.piece-requires-clause-lens
piece-requires-clause-lens c =
    let b = c.args.self.now in
    (tested (store b.nodes.now b.places) b.contents b.sound).orderly.short

pub returns-in_err-draft-in-PutVersion : goal.returns-in_err-draft-in-PutVersion
returns-in_err-draft-in-PutVersion c =
    let b = c.args.self.now in
    let p = err_from_is_err_and c.from_residual-in_err-draft-in-PutVersion.result c.from_residual-in_err-draft-in-PutVersion.ensures.1 in
    let closed = c.in_err-draft-in-PutVersion.ensures.case in
    rw (c.in-PutVersion.is, p.1, p.2, closed.0)
    (record { case = version_closed (tested (store b.nodes.now b.places) b.contents b.sound) c.in-PutVersion.place c.in-PutVersion.version c.in_ok-root-in-PutVersion.root c.in_ok-root-in-PutVersion.ensures closed.1 })

pub returns-in_err-place-in-PutVersion : goal.returns-in_err-place-in-PutVersion
returns-in_err-place-in-PutVersion c =
    let b = c.args.self.now in
    let p = err_from_is_err_and c.from_residual-in_err-place-in-PutVersion.result c.from_residual-in_err-place-in-PutVersion.ensures.1 in
    let past = c.in_err-place-in-PutVersion.ensures in
    let d = c.in_ok-draft-in-PutVersion in
    let begun = d.ensures.case in
    let g = begins (store b.nodes.now b.places) b.contents d.draft begun.0 b.sound in
    rw (c.in-PutVersion.is, p.1, p.2, past.0)
    (record { case = version_stops g d.size begun.1 c.in-PutVersion.place c.in-PutVersion.version c.in_ok-root-in-PutVersion.root c.in_ok-root-in-PutVersion.ensures (omega (arith, past.1)) })

pub len_at-requires : goal.len_at-requires
len_at-requires c =
    let b = c.args.self.now in
    version_root (tested (store b.nodes.now b.places) b.contents b.sound) c.in-PutVersion.version c.in_ok-root-in-PutVersion.root c.in_ok-root-in-PutVersion.ensures

pub returns-then-len_at-size : goal.returns-then-len_at-size
returns-then-len_at-size c =
    let b = c.args.self.now in
    let d = c.in_ok-draft-in-PutVersion in
    let begun = d.ensures.case in
    let g = begins (store b.nodes.now b.places) b.contents d.draft begun.0 b.sound in
    rw c.in-PutVersion.is (record {
      case = version_stops_long g d.size begun.1 c.in-PutVersion.place c.in-PutVersion.version c.in_ok-root-in-PutVersion.root c.in_ok-root-in-PutVersion.ensures
          (omega (arith, c.in_ok-place-in-PutVersion.ensures.2)) c.len_at.result c.len_at.ensures.is (omega (arith, begun.2));
    })

pub returns-in_ok-change-in-PutPiece : goal.returns-in_ok-change-in-PutPiece
returns-in_ok-change-in-PutPiece c =
    let b = c.args.self.now in
    let d = c.in_ok-draft-in-PutPiece in
    let begun = d.ensures.case in
    let g = begins (store b.nodes.now b.places) b.contents d.draft begun.0 b.sound in
    let fits = c.in_ok-change-in-PutPiece.ensures.case in
    rw (c.in-PutPiece.is, fits.0)
    (record { case = piece_accepted g d.size begun.1 c.in-PutPiece.place c.in-PutPiece.text c.in-PutPiece.from c.in-PutPiece.len fits.1 })

pub returns-else-len_at-size : goal.returns-else-len_at-size
returns-else-len_at-size c =
    let b = c.args.self.now in
    let d = c.in_ok-draft-in-PutVersion in
    let begun = d.ensures.case in
    let g = begins (store b.nodes.now b.places) b.contents d.draft begun.0 b.sound in
    let inside = c.in_ok-place-in-PutVersion.ensures in
    rw (c.in-PutVersion.is, inside.0) (record {
      case = version_accepted g d.size begun.1 c.in-PutVersion.place c.in-PutVersion.version c.in_ok-root-in-PutVersion.root c.in_ok-root-in-PutVersion.ensures
          (omega (arith, inside.2)) c.len_at.result c.len_at.ensures.is (omega (arith, begun.2));
    })

pub returns-in_ok-from-in-Cut : goal.returns-in_ok-from-in-Cut
returns-in_ok-from-in-Cut c =
    let b = c.args.self.now in
    let d = c.in_ok-draft-in-Cut in
    let begun = d.ensures.case in
    let g = begins (store b.nodes.now b.places) b.contents d.draft begun.0 b.sound in
    let inside = c.in_ok-from-in-Cut.ensures in
    rw (c.in-Cut.is, inside.0, inside.1) (record { case = cut_accepted g d.size begun.1 c.in-Cut.from c.in-Cut.len inside.2 })

pub returns-in_ok-from-in-Crop : goal.returns-in_ok-from-in-Crop
returns-in_ok-from-in-Crop c =
    let b = c.args.self.now in
    let d = c.in_ok-draft-in-Crop in
    let begun = d.ensures.case in
    let g = begins (store b.nodes.now b.places) b.contents d.draft begun.0 b.sound in
    let inside = c.in_ok-from-in-Crop.ensures in
    rw (c.in-Crop.is, inside.0, inside.1) (record { case = crop_accepted g d.size begun.1 c.in-Crop.from c.in-Crop.len inside.2 })
