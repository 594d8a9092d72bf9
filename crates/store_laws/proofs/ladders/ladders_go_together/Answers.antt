use Rattle.store_laws.proofs.Joining.{adds, roots, holds_one}
use Rattle.store_laws.proofs.ladders.ladders_go_together.Goals as goal

pub returns-clause-derivation : goal.returns-clause-derivation
returns-clause-derivation call os held before after k d f result a = adds os held before k d f after result a

pub returns-clause-root : goal.returns-clause-root
returns-clause-root call os held before after k key result a = roots os held before k key after result a

pub returns-clause-holder : goal.returns-clause-holder
returns-clause-holder call os held before after k h n stands put = holds_one os held before k h n after stands put
