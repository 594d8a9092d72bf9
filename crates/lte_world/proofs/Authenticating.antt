-- An authentication, of phone and core together.
use Rattle.std.proofs.Common.{◌≡◌, refl, sym, ap, subst, ◌∙◌, ℕ, List, Option, Some, None, Result, Ok, Err}
use Rattle.std.specs.Str.{bytes_eq}
use Rattle.alg_choice.specs.declared.caps.Caps.{Caps}
use Rattle.lte_events.specs.{Reply.reply_of, declared.events.Event.Event, declared.inputs.PhoneIn.PhoneIn, declared.inputs.CoreIn.CoreIn, declared.lines.Line.Line, declared.lines.Who.Who, declared.replies.ActorOut.ActorOut}
use Rattle.lte_events.specs.declared.answers.Answer.TheVariants.{Done, RepeatedRoot}
use Rattle.key_terms.specs.{declared.proof.Proof.Proof, declared.row.Row.Row}
use Rattle.lte_machine.specs.Calls.{line_of_reply, phone_call, core_call}
use Rattle.lte_machine.specs.{CoreState.Core, Machines.Kept, PhoneState.Phone, Step.by_ladder}
use Rattle.lte_machine.specs.Ladder.{Clash, ladder_of, root_row}
use Rattle.lte_machine.specs.World.{World, auth_unless, known_root}
use Rattle.lte_world.specs.{declared.network.Enrolled.Enrolled, Networks.Stores}
use Rattle.lte_world.specs.Enrolling.{with_root, EnrolledBy, EnrolledAs}
use Rattle.lte_world.specs.Systems.{octets, Actors, CameOut, Happens}

module _ (a : Actors) (stores : Stores) (ksi : ℕ) (root : List ℕ) (caps : Caps) (step : ℕ) where
  -- what comes of it, by the row that is this root
  abbrev Out : World (List ℕ) ℕ Kept → Option ℕ → Actors → Result Line Proof → Type 0
  Out w o b result =
      CameOut (by_ladder (ladder_of bytes_eq (auth_unless octets w ksi root caps o).0.history).clash
      (auth_unless octets w ksi root caps o))
      b result

  pub not_new_repeated : {n : Row} → Enrolled.New ≡ Enrolled.Repeated n → ⊥
  not_new_repeated e = cc

  pub not_new_coincidence : {p : Proof} → Enrolled.New ≡ Enrolled.Coincidence p → ⊥
  not_new_coincidence e = cc

  pub not_repeated_coincidence : {n : Row} {p : Proof} → Enrolled.Repeated n ≡ Enrolled.Coincidence p → ⊥
  not_repeated_coincidence e = cc

  repeated_is : {m n : Row} → Enrolled.Repeated m ≡ Enrolled.Repeated n → m ≡ n
  repeated_is e = cc

  coincidence_is : {p q : Proof} → Enrolled.Coincidence p ≡ Enrolled.Coincidence q → p ≡ q
  coincidence_is e = cc

  pub auth_repeated : (n : Row) (line : Line) (b : Actors) → EnrolledAs a.stores stores root (Enrolled.Repeated n) →
      b ≡ record a { stores = stores } → line ≡ line_of_reply step Who.World None (reply_of (RepeatedRoot n.0)) →
      Happens a b (Event.Auth ksi root caps) step (Ok line)
  unfolding Happens EnrolledAs
  auth_repeated n line b h same told w are ev can =
      subst (λ x. Out w (known_root octets w root) x (Ok line)) (sym same)
      (by (root_row bytes_eq root (ladder_of bytes_eq w.history).rows) (ladder_of bytes_eq (with_root w root).history).clash (h w are.stores))
    where
      by : (o : Option ℕ) (c : Option (Clash (List ℕ))) → EnrolledBy o c w root stores (Enrolled.Repeated n) → Out w o (record a { stores = stores }) (Ok line)
      by (Some k) c e =
          subst (λ x. CameOut (by_ladder x (auth_unless octets w ksi root caps (Some k))) (record a { stores = stores }) (Ok line)) (sym are.stores.calm) (
            ap Ok (told ∙ (λ j. line_of_reply (sym ev j) Who.World None (reply_of (RepeatedRoot (repeated_is e.0 j).0)))),
            record {
              phone = are.phone;
              core = are.core;
              stations = are.stations;
              stores = record { records = e.1.records; uses = e.1.uses; calm = e.1.calm; rows = e.1.rows };
            },
          )
      by None (Some c) e = absurd (not_repeated_coincidence e)
      by None None e = absurd (not_new_repeated (sym e.0))

  pub auth_coincidence : (p : Proof) (b : Actors)
      → EnrolledAs a.stores stores root (Enrolled.Coincidence p)
      → Happens a b (Event.Auth ksi root caps) step (Err p)
  unfolding Happens EnrolledAs
  auth_coincidence p b h w are ev can =
      by (root_row bytes_eq root (ladder_of bytes_eq w.history).rows) (ladder_of bytes_eq (with_root w root).history).clash refl (h w are.stores)
    where
      by : (o : Option ℕ) (c : Option (Clash (List ℕ)))
          → (ladder_of bytes_eq (with_root w root).history).clash ≡ c
          → EnrolledBy o c w root stores (Enrolled.Coincidence p)
          → Out w o b (Err p)
      by (Some k) c is e = absurd (not_repeated_coincidence (sym e.0))
      by None (Some c) is e =
          subst (λ x. CameOut (by_ladder x (auth_unless octets w ksi root caps None)) b (Err p)) (sym is) (ap Err (coincidence_is e))
      by None None is e = absurd (not_new_coincidence (sym e.0))

  pub auth_new : (phone : Phone (List ℕ) ℕ) (core : Core (List ℕ) ℕ) (out told_core : ActorOut) (line : Line) → EnrolledAs a.stores stores root Enrolled.New →
      (phone, out) ≡ phone_call a.phone (PhoneIn.Auth ksi root) →
      (core, told_core) ≡ core_call a.core (CoreIn.Auth ksi root caps) →
      line ≡ line_of_reply step Who.Both None (reply_of Done) →
      Happens a (record a { phone = phone; core = core; stores = stores }) (Event.Auth ksi root caps) step (Ok line)
  unfolding Happens EnrolledAs
  auth_new phone core out told_core line h called called_core told w are ev can =
      by (root_row bytes_eq root (ladder_of bytes_eq w.history).rows) (ladder_of bytes_eq (with_root w root).history).clash refl (h w are.stores)
    where
      by : (o : Option ℕ) (c : Option (Clash (List ℕ)))
          → (ladder_of bytes_eq (with_root w root).history).clash ≡ c
          → EnrolledBy o c w root stores Enrolled.New
          → Out w o (record a { phone = phone; core = core; stores = stores }) (Ok line)
      by (Some k) c is e = absurd (not_new_repeated e.0)
      by None (Some c) is e = absurd (not_new_coincidence e)
      by None None is e =
          subst (λ x. CameOut (by_ladder x (auth_unless octets w ksi root caps None))
          (record a { phone = phone; core = core; stores = stores }) (Ok line))
          (sym is) (
            ap Ok (told ∙ ap (λ n. line_of_reply n Who.Both None (reply_of Done)) (sym ev)),
            record {
              phone = ap (λ x. x.0) (called ∙ ap (λ s. phone_call s (PhoneIn.Auth ksi root)) are.phone);
              core = ap (λ x. x.0) (called_core ∙ ap (λ s. core_call s (CoreIn.Auth ksi root caps)) are.core);
              stations = are.stations;
              stores = record { records = e.1.records; uses = e.1.uses; calm = e.1.calm; rows = e.1.rows };
            },
          )

pub happens_from : (a now b : Actors) → a ≡ now → (e : Event) (step : ℕ) (result : Result Line Proof) → Happens a b e step result → Happens now b e step result
happens_from a now b is e step result h = subst (λ x. Happens x b e step result) is h
