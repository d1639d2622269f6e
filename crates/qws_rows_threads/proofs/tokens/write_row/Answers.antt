use Rattle.std.proofs.Common.{◌∙◌, subst, sym}
use Rattle.qws_rows_threads.specs.Tokens.{IsHead}
use Rattle.qws_rows_threads.proofs.Rows.{row_written}
use Rattle.qws_rows_threads.proofs.tokens.write_row.Goals as goal

pub returns-clause-head : goal.returns-clause-head
returns-clause-head c =
    let same = c.write-5.ensures.same.1 ∙ c.write-4.ensures.same.1 ∙ c.write-3.ensures.same.1 ∙ c.write-2.ensures.same.1 ∙ c.write.ensures.same.1 in
    subst (λ s. IsHead s 1 c.write-5.new.self.head.now) (sym same)
    (row_written _ _ _ _ _ _ _ _ c.row_at-row.ensures c.write.ensures.head c.write-2.ensures.head c.write-3.ensures.head c.write-4.ensures.head c.write-5.ensures.head c.requires.head c.requires.opening c.requires.clients c.requires.size)
