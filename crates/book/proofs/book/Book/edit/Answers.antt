use Rattle.std.proofs.lemmas.Result.{err_from_is_err_and}
use Rattle.model.proofs.Histories.{with_history}
use Rattle.book.specs.Judging.{edit_of}
use Rattle.book.proofs.EditRows.{refuses, does}
use Rattle.book.proofs.book.Book.edit.Goals as goal

pub returns-in_err-draft : goal.returns-in_err-draft
returns-in_err-draft c =
    let p = err_from_is_err_and c.from_residual.result c.from_residual.ensures.1 in
    rw (p.1, p.2) (with_history (refuses (edit_of c.args.edit) c.args.self.now.sound c.in_err-draft.field-0.0 c.in_err-draft.ensures.case).steps)

pub redraft-requires : goal.redraft-requires
redraft-requires c =
    let a = c.in_ok-draft.ensures.case in record { begun = a.begun; fits = a.fits }

pub returns : goal.returns
returns c = with_history (does (edit_of c.args.edit) c.args.self.now.sound c.in_ok-draft.ensures.case c.redraft.result c.redraft.ensures).steps
