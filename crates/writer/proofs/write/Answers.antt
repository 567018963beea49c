use Rattle.std.proofs.lemmas.Result.{err_from_is_err_and}
use Rattle.task_check.proofs.Laws.{told_accepted, told_refused}
use Rattle.writer.proofs.Writing.{write_refused, write_short, header_room, write_whole}
use Rattle.writer.proofs.write.Goals as goal

pub returns-in_err-check : goal.returns-in_err-check
returns-in_err-check c =
    let told = told_refused _ _ c.check.ensures _ c.in_err-check.was in
    let p = err_from_is_err_and c.from_residual.result c.from_residual.ensures.1 in
    rw (p.1, p.2) (write_refused _ _ _ told.0 told.1)

pub returns-then-out-length : goal.returns-then-out-length
returns-then-out-length c =
    let passes = told_accepted _ _ c.check.ensures _ c.in_ok-check.was in
    write_short _ _ passes (rw (← c.begin-length.ensures.is) c.if-out-length.true)

pub put_counts-requires : goal.put_counts-requires
put_counts-requires c =
    header_room c.args.file.now _ (rw (← c.begin-length.ensures.is) c.if-out-length.false)

pub put_offsets-requires : goal.put_offsets-requires
put_offsets-requires c =
    (told_accepted _ _ c.check.ensures _ c.in_ok-check.was, rw c.put_counts.auto.out (header_room c.args.file.now _ (rw (← c.begin-length.ensures.is) c.if-out-length.false)))

pub returns : goal.returns
returns c =
    write_whole _ _ _ _ (told_accepted _ _ c.check.ensures _ c.in_ok-check.was) c.begin-length.ensures.is c.if-out-length.false (rw (c.put_sections.ensures, c.put_offsets.ensures, c.put_counts.ensures))
