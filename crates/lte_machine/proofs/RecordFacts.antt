-- What a station's choice of a row on a record established: the one walk through its refusals. For the row that was chosen, all that
-- the passed tests say.
use Rattle.std.proofs.Common.{◌≡◌, refl, sym, subst, ◌∙◌, ap, ℕ, ◌+◌, ◌<◌, ◌≤◌, Bool, true, false, not, ◌&&◌, ◌==◌, nat_le, nat_lt, slice_index, Option, Some, None, option_map, Result, Ok, Err, arith}
use Rattle.std.specs.Prelude.{⊤}
use Rattle.std.proofs.lemmas.Bool.Decides.{nat_tests}
use Rattle.alg_choice.specs.{Choice.choice_of, declared.algs.Algs.Algs, declared.caps.Caps.Caps, declared.choices.NoAlgorithm.NoAlgorithm as Unmatched}
use Rattle.annex_a_keys.specs.Cell.{Place}
use Rattle.lte_events.specs.Site.{station_of}
use Rattle.key_model.specs.Reading.{Reading}
use Rattle.s1x2_rec.specs.Content.{Content, map_content}
use Rattle.s1x2_rec.specs.Fields.{Fields, InitialContext, ContextRelease, PathSwitchAnswer, HandoverRequest, HandoverCommand, HandoverCancel, X2Request, X2Ack, X2Cancel, X2Release, ContextModification}
use Rattle.ho_prep.specs.Prep.{has_attempt}
use Rattle.x2_handover.specs.declared.orders.Order.{Order}
use Rattle.lte_machine.specs.{Bearers.is_spent, Reply.Origin, Reply.unseen, StationStep.plain_station}
use Rattle.lte_machine.specs.StationState.{Station, Context, Via, OverX2, OverS1, Progress, Open, Ready, Commanded, Attempt, Interface, OnS1, OnX2, map_context, map_attempt, map_source_keys}
use Rattle.lte_machine.specs.StationRows.{Admitted, RecordRow, RecordRefused, ContextGiven, ContextReleased, PairTaken, PreparedByS1, PreparedByX2, AttemptAnswered, PreparationCancelled, SourceReleased, KeyRenewed}
use Rattle.lte_machine.specs.StationChoice.{runs_out, is_station, is_own, is_full, initial_choice, initial_row, release_row, answer_row_by, answer_row, admitted_choice, admitted_row, order_of, is_over_x2, is_over_s1, star_ncc, answered_row, s1_acked_row, s1_ack_row, x2_acked_row, x2_ack_row, cancel_row, released_row, x2_released_row, x2_release_row, renewed_alone, modification_row, s1_row, x2_row, record_row}
use Rattle.lte_machine.proofs.Tests.{by_test, both_true, above_of, at_least_of, same_of}

-- numbers that may be drawn have 32 bits
pub one_left : (n : ℕ) → runs_out 1 n ≡ false → n < 4294967296
one_left n e = grind (arith, nat_tests)

pub two_left : (n : ℕ) → runs_out 2 n ≡ false → n + 1 < 4294967296
two_left n e = grind (arith, nat_tests)

-- a context is set up: in a cell of the station's own, of a newer connection, and the next number is its air address
pub record Gives {K C : Type 0} (s : Station K C) (on : Interface) (fields : Fields) (conn : ℕ) (cell : Place)
    (caps : Caps) (algs : Algs) (air : ℕ) : Type 0 where
  pub on_is : on ≡ OnS1
  pub fields_is : fields ≡ InitialContext conn cell caps
  pub newer : s.last < conn
  pub own : station_of cell s.cells ≡ Some s.id
  pub chosen : choice_of s.priority caps ≡ Ok algs
  pub air_is : air ≡ s.next
  pub left : s.next < 4294967296

-- the context is released
pub record Releases {K C : Type 0} (s : Station K C) (on : Interface) (fields : Fields) : Type 0 where
  pub on_is : on ≡ OnS1
  pub context : Context K C
  pub serving : s.context ≡ Some context
  pub fields_is : fields ≡ ContextRelease context.conn

-- an answer is taken for the outstanding number of the context
pub record Takes {K C : Type 0} (s : Station K C) (on : Interface) (fields : Fields) (conn : ℕ) (origin : Option Origin) : Type 0 where
  pub on_is : on ≡ OnS1
  pub context : Context K C
  pub serving : s.context ≡ Some context
  pub asked : ℕ
  pub number : ℕ
  pub fields_is : fields ≡ PathSwitchAnswer asked number
  pub outstanding : context.outstanding ≡ Some number
  pub conn_is : conn ≡ context.conn
  pub origin_is : origin ≡ context.origin

-- a handover request is admitted: to a cell of the station's own, of no older connection and of a new attempt, there is room for
-- it, and the next number is its air address
pub record Admits {K C : Type 0} (r : Reading K C) (s : Station K C) (w : Admitted) : Type 0 where
  pub at_least : s.last ≤ w.conn
  pub own : station_of w.cell s.cells ≡ Some s.id
  pub new : slice_index s.seen w.from.source < w.from.attempt
  pub room : ((w.conn == s.last) && is_full (plain_station r s)) ≡ false
  pub chosen : choice_of s.priority w.caps ≡ Ok w.algs
  pub air_is : w.air ≡ s.next
  pub left : s.next < 4294967296

pub record AdmitsOnS1 {K C : Type 0} (r : Reading K C) (s : Station K C) (on : Interface) (fields : Fields) (w : Admitted) : Type 0 where
  pub on_is : on ≡ OnS1
  pub fields_is : fields ≡ HandoverRequest w.conn w.from.source w.from.attempt w.cell w.caps
  pub admits : Admits r s w

pub record AdmitsOnX2 {K C : Type 0} (r : Reading K C) (s : Station K C) (on : Interface) (fields : Fields) (w : Admitted) : Type 0 where
  pub on_is : on ≡ OnX2
  pub fields_is : fields ≡ X2Request w.conn w.from.source w.from.attempt w.cell w.caps
  pub admits : Admits r s w

-- what the answer to an attempt says, and the order by it
abbrev pub AnswerSays : {K C : Type 0} → Reading K C → Interface → Fields → Attempt K C → Order → Type 0
AnswerSays r OnS1 (HandoverCommand conn number cell ncc algs air) a order =
    (a.via ≡ OverS1) × (a.number ≡ number) × (order ≡ order_of a ncc algs air)
AnswerSays r OnX2 (X2Ack conn number cell algs air) a order =
    (a.via ≡ OverX2) × (a.number ≡ number) × (order ≡ order_of a (star_ncc (option_map (map_source_keys unseen r.ncc) a.keys)) algs air)
AnswerSays r on fields a order = ⊥

-- the open attempt of the context is answered
pub record Answers {K C : Type 0} (r : Reading K C) (s : Station K C) (on : Interface) (fields : Fields) (order : Order) : Type 0 where
  pub context : Context K C
  pub serving : s.context ≡ Some context
  pub attempt : Attempt K C
  pub trying : context.attempt ≡ Some attempt
  pub waits : attempt.progress ≡ Open
  pub says : AnswerSays r on fields attempt order

-- the source of a commanded handover over X2 is released
pub record Leaves {K C : Type 0} (s : Station K C) (on : Interface) (fields : Fields) : Type 0 where
  pub on_is : on ≡ OnX2
  pub context : Context K C
  pub serving : s.context ≡ Some context
  pub attempt : Attempt K C
  pub trying : context.attempt ≡ Some attempt
  pub via : attempt.via ≡ OverX2
  pub order : Order
  pub commanded : attempt.progress ≡ Commanded order
  pub conn : ℕ
  pub fields_is : fields ≡ X2Release conn attempt.number

-- the key of an active context with no attempt changes: two numbers are drawn, and its order takes the next COUNT of SRB1
pub record Renews {K C : Type 0} (s : Station K C) (on : Interface) (fields : Fields) (conn number air count : ℕ) : Type 0 where
  pub on_is : on ≡ OnS1
  pub context : Context K C
  pub serving : s.context ≡ Some context
  pub fields_is : fields ≡ ContextModification context.conn conn
  pub newer : s.last < conn
  pub active : context.starting ≡ false
  pub free : context.attempt ≡ None
  pub number_is : number ≡ s.next
  pub air_is : air ≡ s.next + 1
  pub left : s.next + 1 < 4294967296
  pub count_is : count ≡ context.bearers.srb1.send
  pub unspent : is_spent context.bearers.srb1 ≡ false

-- what was established of a row
abbrev pub RecordHas : {K C : Type 0} → Reading K C → Station K C → Interface → Fields → RecordRow → Type 0
RecordHas r s on fields (RecordRefused answer) = ⊤
RecordHas r s on fields (ContextGiven conn cell caps algs air) = Gives s on fields conn cell caps algs air
RecordHas r s on fields ContextReleased = Releases s on fields
RecordHas r s on fields (PairTaken conn origin) = Takes s on fields conn origin
RecordHas r s on fields (PreparedByS1 w) = AdmitsOnS1 r s on fields w
RecordHas r s on fields (PreparedByX2 w) = AdmitsOnX2 r s on fields w
RecordHas r s on fields (AttemptAnswered order) = Answers r s on fields order
RecordHas r s on fields (PreparationCancelled from) = has_attempt from.source from.attempt (plain_station r s).preps ≡ true
RecordHas r s on fields SourceReleased = Leaves s on fields
RecordHas r s on fields (KeyRenewed conn number air count) = Renews s on fields conn number air count

over_s1_so : (via : Via) → is_over_s1 via ≡ true → via ≡ OverS1
over_s1_so OverS1 e = refl
over_s1_so other e = absurd cc

over_x2_so : (via : Via) → is_over_x2 via ≡ true → via ≡ OverX2
over_x2_so OverX2 e = refl
over_x2_so other e = absurd cc

own_so : (id : ℕ) (o : Option ℕ) → is_station id o ≡ true → o ≡ Some id
own_so id None e = absurd cc
own_so id (Some station) e = ap Some (same_of station id e)

own_is : (b : Bool) → not b ≡ false → b ≡ true
own_is true e = refl
own_is false e = absurd cc

pub same_unless : (a b : ℕ) → not (a == b) ≡ false → a ≡ b
same_unless a b e = grind (arith, nat_tests)

module _ {K C : Type 0} (r : Reading K C) (s : Station K C) (on : Interface) (fields : Fields) where
  abbrev Has : RecordRow → Type 0
  Has row = RecordHas r s on fields row

  initial_has : (conn : ℕ) (cell : Place) (caps : Caps)
      → on ≡ OnS1
      → fields ≡ InitialContext conn cell caps
      → Has (initial_row (plain_station r s) conn cell caps)
  initial_has conn cell caps via says =
      by_test Has (nat_le conn s.last) _ _ (λ e. tt) (λ e.
      by_test Has (is_own (plain_station r s) cell) _ _
      (λ f.
      chosen (above_of conn s.last e) (own_so s.id (station_of cell s.cells) f) (choice_of s.priority caps) refl)
      (λ f. tt))
    where
      chosen : s.last < conn
          → station_of cell s.cells ≡ Some s.id
          → (c : Result Algs Unmatched)
          → choice_of s.priority caps ≡ c
          → Has (initial_choice (plain_station r s) conn cell caps c)
      chosen newer own (Err none) f = tt
      chosen newer own (Ok algs) f =
          by_test Has (runs_out 1 s.next) _ _ (λ e. tt)
          (λ e. record { on_is = via; fields_is = says; newer = newer; own = own; chosen = f; air_is = refl; left = one_left s.next e })

  release_has : (conn : ℕ)
      → on ≡ OnS1
      → fields ≡ ContextRelease conn
      → (o : Option (Context K C))
      → s.context ≡ o
      → Has (release_row conn (option_map (map_context unseen r.ncc) o))
  release_has conn via says None e = tt
  release_has conn via says (Some c) e =
      by_test Has (c.conn == conn) _ _
      (λ f. record { on_is = via; context = c; serving = e; fields_is = subst (λ n. fields ≡ ContextRelease n) (sym (same_of c.conn conn f)) says }) (λ f. tt)

  answer_has : (asked number : ℕ) → on ≡ OnS1 → fields ≡ PathSwitchAnswer asked number → (o : Option (Context K C)) → s.context ≡ o
      → Has (answer_row number (option_map (map_context unseen r.ncc) o))
  answer_has asked number via says None e = tt
  answer_has asked number via says (Some c) e = by_number c.outstanding refl where
    by_number : (o : Option ℕ) → c.outstanding ≡ o → Has (answer_row_by number o (PairTaken c.conn c.origin))
    by_number None f = tt
    by_number (Some n) f =
        by_test Has (n == number) _ _
        (λ g. record {
          on_is = via;
          context = c;
          serving = e;
          asked = asked;
          number = number;
          fields_is = says;
          outstanding = f ∙ ap Some (same_of n number g);
          conn_is = refl;
          origin_is = refl;
        }) (λ g. tt)

  admitted_has : (conn : ℕ) (from : Origin) (cell : Place) (caps : Caps) (row : Admitted → RecordRow)
      → ((algs : Algs)
      → (let w : Admitted =
      record { conn = conn; from = from; cell = cell; caps = caps; algs = algs; air = s.next } in
      Admits r s w → Has (row w)))
      → Has (admitted_row (plain_station r s) conn from cell caps row)
  admitted_has conn from cell caps row f =
      by_test Has (nat_lt conn s.last) _ _ (λ e. tt) (λ old.
      by_test Has (not (is_own (plain_station r s) cell)) _ _ (λ e. tt) (λ other.
      by_test Has (nat_le from.attempt (slice_index s.seen from.source)) _ _ (λ e. tt) (λ seen.
      by_test Has ((conn == s.last) && is_full (plain_station r s)) _ _ (λ e. tt) (λ room.
      chosen (at_least_of conn s.last old)
      (own_so s.id (station_of cell s.cells) (own_is (is_own (plain_station r s) cell) other))
      (above_of from.attempt (slice_index s.seen from.source) seen) room (choice_of s.priority caps) refl))))
    where
      chosen : s.last ≤ conn
          → station_of cell s.cells ≡ Some s.id
          → slice_index s.seen from.source < from.attempt
          → ((conn == s.last) && is_full (plain_station r s)) ≡ false
          → (c : Result Algs Unmatched) → choice_of s.priority caps ≡ c → Has (admitted_choice (plain_station r s) conn from cell caps row c)
      chosen at_least own new room (Err none) g = tt
      chosen at_least own new room (Ok algs) g =
          by_test Has (runs_out 1 s.next) _ _ (λ e. tt)
          (λ e. f algs (record { at_least = at_least; own = own; new = new; room = room; chosen = g; air_is = refl; left = one_left s.next e }))

  cancel_has : (from : Origin) → Has (cancel_row (plain_station r s) from)
  cancel_has from = by_test Has (has_attempt from.source from.attempt (plain_station r s).preps) _ _ (λ e. e) (λ e. tt)

  x2_release_has : (conn number : ℕ) → on ≡ OnX2 → fields ≡ X2Release conn number → (o : Option (Context K C)) → s.context ≡ o
      → Has (x2_release_row number (option_map (map_context unseen r.ncc) o))
  x2_release_has conn number via says None e = tt
  x2_release_has conn number via says (Some c) e = released c.attempt refl where
    left : (a : Attempt K C) → c.attempt ≡ Some a → (a.via ≡ OverX2) → (a.number ≡ number) → (p : Progress) → a.progress ≡ p → Has (released_row p)
    left a f x n Open g = tt
    left a f x n (Ready order) g = tt
    left a f x n (Commanded order) g =
        record {
          on_is = via;
          context = c;
          serving = e;
          attempt = a;
          trying = f;
          via = x;
          order = order;
          commanded = g;
          conn = conn;
          fields_is = subst (λ n. fields ≡ X2Release conn n) (sym n) says;
        }

    released : (o : Option (Attempt K C)) → c.attempt ≡ o → Has (x2_released_row number (option_map (map_attempt unseen r.ncc) o))
    released None f = tt
    released (Some a) f =
        by_test Has (is_over_x2 a.via && (a.number == number)) _ _ (λ g.
        let both = both_true (is_over_x2 a.via) (a.number == number) g in
        left a f (over_x2_so a.via both.0) (same_of a.number number both.1) a.progress refl) (λ g. tt)

  modification_has : (conn next : ℕ) → on ≡ OnS1 → fields ≡ ContextModification conn next → (o : Option (Context K C)) → s.context ≡ o
      → Has (modification_row (plain_station r s) conn next (option_map (map_context unseen r.ncc) o))
  modification_has conn next via says None e = tt
  modification_has conn next via says (Some c) e =
      by_test Has (not (c.conn == conn)) _ _ (λ f. tt) (λ f.
      by_test Has (nat_le next s.last) _ _ (λ g. tt) (λ g.
      by_test Has c.starting _ _ (λ h. tt) (λ h. alone (same_unless c.conn conn f) (above_of next s.last g) h c.attempt refl)))
    where
      alone : c.conn ≡ conn → s.last < next → c.starting ≡ false → (a : Option (Attempt K C)) → c.attempt ≡ a
          → Has (renewed_alone next s.next c.bearers.srb1 (option_map (map_attempt unseen r.ncc) a))
      alone f newer active (Some attempt) free = tt
      alone f newer active None free =
          by_test Has (runs_out 2 s.next) _ _ (λ g. tt) (λ g.
          by_test Has (is_spent c.bearers.srb1) _ _ (λ h. tt) (λ h. record {
            on_is = via;
            context = c;
            serving = e;
            fields_is = subst (λ n. fields ≡ ContextModification n next) (sym f) says;
            newer = newer;
            active = active;
            free = free;
            number_is = refl;
            air_is = refl;
            left = two_left s.next g;
            count_is = refl;
            unspent = h;
          }))

-- an answer, on S1 and on X2
module _ {K C : Type 0} (r : Reading K C) (s : Station K C) (on : Interface) (fields : Fields) (c : Context K C) (e : s.context ≡ Some c)
    (a : Attempt K C) (f : c.attempt ≡ Some a) where
  answered_has : (number : ℕ) (order : Order) → AnswerSays r on fields a order → (p : Progress) → a.progress ≡ p
      → RecordHas r s on fields (answered_row number order p)
  answered_has number order says Open g = record { context = c; serving = e; attempt = a; trying = f; waits = g; says = says }
  answered_has number order says (Ready old) g = tt
  answered_has number order says (Commanded old) g = tt

module _ {K C : Type 0} (r : Reading K C) (s : Station K C) where
  s1_ack_has : (conn number : ℕ) (cell : Place) (ncc : ℕ) (algs : Algs) (air : ℕ) → (o : Option (Context K C)) → s.context ≡ o
      → RecordHas r s OnS1 (HandoverCommand conn number cell ncc algs air) (s1_ack_row number ncc algs air (option_map (map_context unseen r.ncc) o))
  s1_ack_has conn number cell ncc algs air None e = tt
  s1_ack_has conn number cell ncc algs air (Some c) e = acked c.attempt refl where
    acked : (o : Option (Attempt K C)) → c.attempt ≡ o
        → RecordHas r s OnS1 (HandoverCommand conn number cell ncc algs air) (s1_acked_row number ncc algs air (option_map (map_attempt unseen r.ncc) o))
    acked None f = tt
    acked (Some a) f =
        by_test (RecordHas r s OnS1 (HandoverCommand conn number cell ncc algs air)) (is_over_s1 a.via && (a.number == number)) _ _ (λ g.
        let both = both_true (is_over_s1 a.via) (a.number == number) g in
        answered_has r s OnS1 (HandoverCommand conn number cell ncc algs air) c e a f number (order_of a ncc algs air)
        (over_s1_so a.via both.0, same_of a.number number both.1, refl) a.progress refl) (λ g. tt)

  x2_ack_has : (conn number : ℕ) (cell : Place) (algs : Algs) (air : ℕ) → (o : Option (Context K C)) → s.context ≡ o
      → RecordHas r s OnX2 (X2Ack conn number cell algs air) (x2_ack_row number algs air (option_map (map_context unseen r.ncc) o))
  x2_ack_has conn number cell algs air None e = tt
  x2_ack_has conn number cell algs air (Some c) e = acked c.attempt refl where
    acked : (o : Option (Attempt K C)) → c.attempt ≡ o
        → RecordHas r s OnX2 (X2Ack conn number cell algs air) (x2_acked_row number algs air (option_map (map_attempt unseen r.ncc) o))
    acked None f = tt
    acked (Some a) f =
        by_test (RecordHas r s OnX2 (X2Ack conn number cell algs air)) (is_over_x2 a.via && (a.number == number)) _ _ (λ g.
        let both = both_true (is_over_x2 a.via) (a.number == number) g in
        answered_has r s OnX2 (X2Ack conn number cell algs air) c e a f number (order_of a (star_ncc (option_map (map_source_keys unseen r.ncc) a.keys)) algs air)
        (over_x2_so a.via both.0, same_of a.number number both.1, refl) a.progress refl) (λ g. tt)

  s1_has : (fields : Fields) → RecordHas r s OnS1 fields (s1_row (plain_station r s) fields)
  s1_has (InitialContext conn cell caps) = initial_has r s OnS1 _ conn cell caps refl refl
  s1_has (ContextRelease conn) = release_has r s OnS1 _ conn refl refl s.context refl
  s1_has (PathSwitchAnswer conn number) = answer_has r s OnS1 _ conn number refl refl s.context refl
  s1_has (HandoverRequest conn source attempt cell caps) =
      admitted_has r s OnS1 _ conn (record { source = source; attempt = attempt }) cell caps PreparedByS1
      (λ algs a. record { on_is = refl; fields_is = refl; admits = a })
  s1_has (HandoverCommand conn attempt cell ncc algs air) = s1_ack_has conn attempt cell ncc algs air s.context refl
  s1_has (HandoverCancel conn source attempt cell) = cancel_has r s OnS1 _ (record { source = source; attempt = attempt })
  s1_has (ContextModification conn next) = modification_has r s OnS1 _ conn next refl refl s.context refl
  s1_has other = tt

  x2_has : (fields : Fields) → RecordHas r s OnX2 fields (x2_row (plain_station r s) fields)
  x2_has (X2Request conn source attempt cell caps) =
      admitted_has r s OnX2 _ conn (record { source = source; attempt = attempt }) cell caps PreparedByX2
      (λ algs a. record { on_is = refl; fields_is = refl; admits = a })
  x2_has (X2Ack conn attempt cell algs air) = x2_ack_has conn attempt cell algs air s.context refl
  x2_has (X2Cancel conn source attempt) = cancel_has r s OnX2 _ (record { source = source; attempt = attempt })
  x2_has (X2Release conn attempt) = x2_release_has r s OnX2 _ conn attempt refl refl s.context refl
  x2_has other = tt

  -- the row of a record that reads
  pub record_has : (on : Interface) (content : Content K C)
      → RecordHas r s on content.fields (record_row (plain_station r s) on (Ok (map_content unseen r.ncc content)))
  record_has OnS1 content = s1_has content.fields
  record_has OnX2 content = x2_has content.fields
