use Rattle.status_page.proofs.control.reply.+write_rows.Given as goal

abbrev pub decreases-write_rows : goal.decreases-write_rows
decreases-write_rows l = l.outs
