use Rattle.std.proofs.lemmas.Result.{err_from_is_err_and}
use Rattle.task_check.proofs.Laws.{told_refused}
use Rattle.question.proofs.Asking.{file_refused}
use Rattle.question.proofs.question.Goals as goal

pub returns-in_err-check : goal.returns-in_err-check
returns-in_err-check c =
    let p = err_from_is_err_and c.from_residual.result c.from_residual.ensures.1 in
    rw (p.1, p.2) (file_refused _ _ _ _ _ _ _ _ _ _ _ _ (told_refused _ _ c.check.ensures _ c.in_err-check.was))
