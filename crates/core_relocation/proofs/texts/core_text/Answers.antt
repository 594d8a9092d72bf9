use Rattle.std.proofs.Common.{◌≡◌, ◌∙◌, ap, ◌++◌, rules}
use Rattle.std.specs.{Prelude.codes, Fmt.decimal}
use Rattle.lte_events.specs.declared.lines.Who.{Who}
use Rattle.report_text.specs.Line.{line_text}
use Rattle.core_relocation.proofs.CoreText.{fits, numbered}
use Rattle.core_relocation.proofs.texts.core_text.Goals as goal

pub behind-rest-requires : goal.behind-rest-requires
behind-rest-requires c =
    let front : c.as_bytes.result.now ≡ decimal c.args.told.step ++ codes " core" = search rules in
    let whole : c.deref.result.now ≡ line_text (record c.args.told { who = Who.Core }) = search rules in
    fits c.args.told c.as_bytes.result.now c.deref.result.now front whole

pub returns-clause-text : goal.returns-clause-text
returns-clause-text c =
    let front : c.as_bytes.result.now ≡ decimal c.args.told.step ++ codes " core" = search rules in
    let whole : c.deref.result.now ≡ line_text (record c.args.told { who = Who.Core }) = search rules in
    let named : c.into_bytes-text.result.items ≡ decimal c.args.told.step ++ (codes " core " ++ decimal c.args.core) = search rules in
    let more : c.extend_from_slice.new.items.items ≡ c.into_bytes-text.result.items ++ c.behind-rest.result.now = search rules in
    more ∙ ap (λ rest. c.into_bytes-text.result.items ++ rest) c.behind-rest.ensures
    ∙ numbered c.args.told c.args.core c.as_bytes.result.now c.into_bytes-text.result.items c.deref.result.now front named whole
