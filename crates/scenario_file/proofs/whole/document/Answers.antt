use Rattle.std.proofs.Common.{◌∙◌, sym, rules}
use Rattle.std.proofs.lemmas.Bool.{false≢true}
use Rattle.scenario_file.proofs.Documents.{document_of-read, no_document}
use Rattle.scenario_file.proofs.whole.document.Goals as goal

pub returns-in-Ok-clause-document : goal.returns-in-Ok-clause-document
returns-in-Ok-clause-document c = document_of-read _ _ c.in-Ok.ensures.ok.0 c.in-Ok.ensures.ok.1

pub returns-else-is_memory-clause-refused : goal.returns-else-is_memory-clause-refused
returns-else-is_memory-clause-refused c = λ other. (
  search rules,
  no_document _
      (c.in-Err.ensures.refused (λ full. false≢true (sym c.if-is_memory.false ∙ c.is_memory.ensures.1 full))),
)
