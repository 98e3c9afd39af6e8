use Rattle.std.proofs.lemmas.Result.{err_from_is_err_and}
use Rattle.book.specs.Records.{store}
use Rattle.book.proofs.Calls.{with_draft}
use Rattle.book.proofs.Redrafting.{allowed, redraft_done, redraft_fails, redrafts_from, lacks_from}
use Rattle.book.proofs.book.Book.redraft.Goals as goal

pub change-result-requires : goal.change-result-requires
change-result-requires c =
    let b = c.args.self.now in
    allowed b.contents c.args.draft (with_draft {s = store b.nodes.now b.places} b.contents c.requires.begun b.sound) c.args.change c.requires.fits

pub invariant_of-self : goal.invariant_of-self
invariant_of-self c =
    let b = c.args.self.now in record {
      sound = (lacks_from b.contents c.args.draft c.requires.begun
          (redraft_fails b.contents c.args.draft (with_draft {s = store b.nodes.now b.places} b.contents c.requires.begun b.sound) c.args.change c.requires.fits
          c.in_err-whole.ensures.case)).keeps;
    }

pub returns-in_err-whole : goal.returns-in_err-whole
returns-in_err-whole c =
    let b = c.args.self.now in
    let p = err_from_is_err_and c.from_residual.result c.from_residual.ensures.1 in
    rw (p.1, p.2)
    (lacks_from b.contents c.args.draft c.requires.begun
    (redraft_fails b.contents c.args.draft (with_draft {s = store b.nodes.now b.places} b.contents c.requires.begun b.sound) c.args.change c.requires.fits
    c.in_err-whole.ensures.case))

pub invariant_of-self-2 : goal.invariant_of-self-2
invariant_of-self-2 c =
    let b = c.args.self.now in record {
      sound = (redraft_done b.contents c.args.draft (with_draft {s = store b.nodes.now b.places} b.contents c.requires.begun b.sound) c.args.change c.requires.fits
          c.in_ok-whole.whole c.in_ok-whole.ensures.case).keeps;
    }

pub returns : goal.returns
returns c =
    let b = c.args.self.now in
    redrafts_from b.contents c.args.draft c.requires.begun
    (redraft_done b.contents c.args.draft (with_draft {s = store b.nodes.now b.places} b.contents c.requires.begun b.sound) c.args.change c.requires.fits
    c.in_ok-whole.whole c.in_ok-whole.ensures.case)
