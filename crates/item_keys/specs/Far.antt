-- Where keys part, against the headline: exactly where the phone takes a key eight or more steps ahead.
use Rattle.std.specs.Prelude.{◌≡◌, ℕ, ◌≤◌, true, false, List, take, slice_get, Some}
use Rattle.key_model.specs.Term.{Term}
use Rattle.lte_events.specs.{declared.events.Event.Event, declared.replies.KeyNote.KeyNote, declared.setups.Setup.Setup}
use Rattle.lte_machine.specs.{Reply.Took, World.Line}
use Rattle.lte_properties.specs.{Agreement.ahead, Agreement.TookMade, BySteps.TakesAt, BySteps.Follows}
use Rattle.item_lines.specs.{Lines.parts, Lines.phone_note, declared.lines.Told.Told}
use Rattle.item_runs.specs.Course.{Seen}

-- at step k of the written machine's run the phone takes a key, and what was made for that air address was eight or more steps ahead; a key
-- change from another authentication counts as eight
pub record TakesFar (setup : Setup) (events : List Event) (k : ℕ) : Type 0 where
  pub took : Took Term ℕ
  pub line : Line Term
  pub takes : TakesAt setup events k took line
  pub follows : Follows setup events k took line
  pub far : 8 ≤ ahead follows.made took.came

-- KEYS PART EXACTLY WHERE IT IS FAR, of a run of items: in octets on the left, over terms on the right
pub record ExactlyFar (s : Seen) : Type 0 where
  pub only : (k : ℕ) (t : Told) → slice_get s.coming.told k ≡ Some t → parts (take k s.coming.told) t ≡ true
      → TakesFar s.setup s.coming.events k
  pub each : (k : ℕ) (t : Told) → slice_get s.coming.told k ≡ Some t → TakesFar s.setup s.coming.events k
      → parts (take k s.coming.told) t ≡ true

-- at step k of that run the phone takes what the station made for that air address: one key, one chain number, the same algorithms
pub record TakesMade (setup : Setup) (events : List Event) (k : ℕ) : Type 0 where
  pub took : Took Term ℕ
  pub line : Line Term
  pub takes : TakesAt setup events k took line
  pub follows : Follows setup events k took line
  pub made : TookMade took follows.made

-- AND WHERE THE PHONE TAKES A KEY AND KEYS DO NOT PART, it is the one that the station made
abbrev pub ElseMade : Seen → Type 0
ElseMade s =
    (k : ℕ) (t : Told) (note : KeyNote) → slice_get s.coming.told k ≡ Some t → phone_note t ≡ Some note
    → parts (take k s.coming.told) t ≡ false → TakesMade s.setup s.coming.events k
