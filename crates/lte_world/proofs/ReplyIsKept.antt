-- What is kept of a step is what the world keeps of its reply.
use Rattle.std.proofs.Common.{◌≡◌, refl, sym, ap, subst, ◌∙◌, ℕ, List, [], ◌∷◌, ◌++◌, length, map, Option, Some, None, Result, Ok, Err, append_assoc, append-nil}
use Rattle.std.specs.{Prelude.option_map, Prelude.IsSome, Str.bytes_eq, List.AllByRecursion as AllOf}
use Rattle.std.proofs.lemmas.List.{map-append, length-map}
use Rattle.annex_a_keys.specs.declared.derived.Derived.{Derived}
use Rattle.rec_base.specs.declared.uses.Use.{Use}
use Rattle.lte_events.specs.{declared.lines.Line.Line, declared.lines.Who.Who, declared.replies.ActorOut.ActorOut}
use Rattle.key_model.specs.Derivation.{Derivation, derived_of}
use Rattle.key_terms.specs.{declared.proof.Proof.Proof, declared.row.Holder.Holder, declared.row.LadderRow.LadderRow, Ladder.row_of}
use Rattle.lte_machine.specs.Calls.{use_in, use_out, actor_out, line_out, line_of_reply, record_out, tuple_out}
use Rattle.lte_machine.specs.{Ciphers.annex_b, Machines.Kept, Machines.machine_in_octets, Reply.Reply, Tuples.Coincidence, Tuples.tuple_coincidence, Wire.KeyUse, Wire.Outgoing}
use Rattle.lte_machine.specs.Ladder.{RowOrigin, Of, Clash, Ladder, add_next, add_rows, no_rows, ladder_of}
use Rattle.lte_machine.specs.World as world
use Rattle.lte_machine.specs.World.{World, Holding, holds, uses_in, with_one, line_of, sent_line}
use Rattle.lte_machine.proofs.KnownLists.{all_more}
use Rattle.store_laws.specs.Additions.{AllCanAdd, CanKeep, IsMadeIn}
use Rattle.store_laws.specs.{Joins.HasRow, Joins.Keeps, Rows.numbered}
use Rattle.store_laws.specs.Records.{view_of, world_records, world_uses}
use Rattle.store_laws.proofs.{Keeping.rows_append, Numbered.row_noted}
use Rattle.lte_world.specs.Networks.{HoldsOne, calm, Awaits, AddedBy, Added, AddsAll, HasRows, HasKeys, HoldsAll, holdings, keys_in, Stores, Fits}
use Rattle.lte_world.specs.Settling.{coincidence_told, sent_in, number_of, after, Settles, SettledBy, SettledAs}
use Rattle.lte_world.proofs.{Deriving.ok_is_no_err, Holders.made_has_row}

-- A LADDER THAT GOES ON

all_can_split : (l : Ladder (List ℕ)) (ms ns : List (RowOrigin (List ℕ))) → AllCanAdd l (ms ++ ns) → AllCanAdd (add_rows bytes_eq l ms) ns
all_can_split l [] ns h = h
all_can_split l (m ∷ ms) ns h = all_can_split (add_next bytes_eq l m) ms ns h.1

module _ (w : World (List ℕ) ℕ Kept) (by : world.Holder) (r : Reply (List ℕ) ℕ) (stores : Stores) (f : Fits w stores) (can : CanKeep (after w by r)) where
  abbrev os : List (RowOrigin (List ℕ))
  os = (ladder_of bytes_eq w.history).rows

  ladder_is : ladder_of bytes_eq w.history ≡ calm os
  ladder_is = λ j. record { rows = os; clash = f.calm j }

  -- the ladder after the step
  pub after_is : add_rows bytes_eq (calm os) (map Of r.derived) ≡ ladder_of bytes_eq (after w by r).history
  after_is = ap (λ l. add_rows bytes_eq l (map Of r.derived)) (sym ladder_is) ∙ sym (rows_append no_rows w.history (map Of r.derived))

  pub can_add : AllCanAdd (calm os) (map Of r.derived)
  can_add = subst (λ l. AllCanAdd l (map Of r.derived)) ladder_is (all_can_split no_rows w.history (map Of r.derived) can.history)

  -- what is added
  pub added : (rows : List LadderRow) (derived : List Derived) (result : Result (Unit {0}) Proof) →
      derived ≡ map derived_of r.derived → AddsAll stores.rows rows derived result →
      Added (ladder_of bytes_eq (after w by r).history) w.held rows result
  added rows derived result are all = subst (λ l. Added l w.held rows result) after_is (all os w.held r.derived f.rows are can_add)

  -- where none clashed
  added_calm : (rows : List LadderRow) (l : Ladder (List ℕ)) → Added l w.held rows (Ok tt) → (l.clash ≡ None) × Keeps l.rows w.held rows
  added_calm rows l a = at l.clash refl a
    where
      at : (c : Option (Clash (List ℕ))) → l.clash ≡ c → AddedBy c l.rows w.held rows (Ok tt) → (l.clash ≡ None) × Keeps l.rows w.held rows
      at None e h = (e, h.1)
      at (Some c) e h = absurd (ok_is_no_err h)

  -- the rows then, and each key that is held has one
  pub calm_after : (rows : List LadderRow) → Added (ladder_of bytes_eq (after w by r).history) w.held rows (Ok tt) →
      ((ladder_of bytes_eq (after w by r).history).clash ≡ None) × Keeps (ladder_of bytes_eq (after w by r).history).rows w.held rows
  calm_after rows a = added_calm rows (ladder_of bytes_eq (after w by r).history) a

  has_row : (rows : List LadderRow)
      → Added (ladder_of bytes_eq (after w by r).history) w.held rows (Ok tt)
      → (key : List ℕ)
      → IsMadeIn (after w by r).history key
      → HasRow rows key
  has_row rows a key made =
      let c = calm_after rows a in
      subst IsSome (sym (ap (λ rs. row_of rs key) c.1.are ∙ row_noted (numbered (ladder_of bytes_eq (after w by r).history).rows) w.held key))
      (made_has_row (after w by r).history key c.0 made)

  held_right : (xs ys : List (Holding (List ℕ)))
      → AllOf (λ h. IsMadeIn (after w by r).history h.key) (xs ++ ys)
      → AllOf (λ h. IsMadeIn (after w by r).history h.key) ys
  held_right [] ys h = h
  held_right (x ∷ xs) ys h = held_right xs ys h.1

  outs_made : (ds : List (Derivation (List ℕ)))
      → AllOf (λ h. IsMadeIn (after w by r).history h.key) (holds by None ds)
      → AllOf (λ d. IsMadeIn (after w by r).history d.out) (map derived_of ds)
  outs_made [] h = tt
  outs_made (d ∷ ds) h = (h.0, outs_made ds h.1)

  keys_made : (o : Option (List ℕ)) → AllOf (λ h. IsMadeIn (after w by r).history h.key) (holds by o r.derived) →
      AllOf (λ key. IsMadeIn (after w by r).history key) (keys_in o) × AllOf (λ d. IsMadeIn (after w by r).history d.out) (map derived_of r.derived)
  keys_made None h = (tt, outs_made r.derived h)
  keys_made (Some key) h = ((h.0, tt), outs_made r.derived h.1)

  pub keys_stand : (rows : List LadderRow)
      → Added (ladder_of bytes_eq (after w by r).history) w.held rows (Ok tt)
      → HasKeys rows (keys_in r.received) × HasRows rows (map derived_of r.derived)
  keys_stand rows a =
      let made = keys_made r.received (held_right w.held (holds by r.received r.derived) can.held) in (
        all_more (λ key. IsMadeIn (after w by r).history key) (λ key. HasRow rows key) (has_row rows a) (keys_in r.received) made.0,
        all_more (λ d. IsMadeIn (after w by r).history d.out) (λ d. HasRow rows d.out) (λ d m. has_row rows a d.out m) (map derived_of r.derived) made.1,
      )

-- HOLDERS

outs_held : (by : world.Holder) (ds : List (Derivation (List ℕ))) → holdings by (map (λ d. d.out) (map derived_of ds)) ≡ holds by None ds
outs_held by [] = refl
outs_held by (d ∷ ds) = ap (λ l. record { holder = by; key = d.out } ∷ l) (outs_held by ds)

all_held : (by : world.Holder) (held : List (Holding (List ℕ))) (o : Option (List ℕ)) (ds : List (Derivation (List ℕ))) →
    (held ++ holdings by (keys_in o)) ++ holdings by (map (λ d. d.out) (map derived_of ds)) ≡ held ++ holds by o ds
all_held by held None ds = ap (λ l. l ++ holdings by (map (λ d. d.out) (map derived_of ds))) (append-nil held) ∙ ap (λ l. held ++ l) (outs_held by ds)
all_held by held (Some key) ds =
    append_assoc held (record { holder = by; key = key } ∷ []) (holdings by (map (λ d. d.out) (map derived_of ds)))
    ∙ ap (λ l. held ++ record { holder = by; key = key } ∷ l) (outs_held by ds)

-- RECORDS AND USES

uses_back : (o : Option (KeyUse (List ℕ))) → option_map use_in (option_map use_out o) ≡ o
uses_back None = refl
uses_back (Some u) = refl

sent_kept : (w : World (List ℕ) ℕ Kept) (r : Reply (List ℕ) ℕ)
    → map view_of (with_one ((machine_in_octets annex_b).keep r.sent) w.sent)
    ≡ map view_of w.sent ++ sent_in (actor_out r).tuple (actor_out r).sent
sent_kept w r = by r.sent
  where
    by : (o : Option (Outgoing (List ℕ) ℕ))
        → map view_of (with_one ((machine_in_octets annex_b).keep o) w.sent)
        ≡ map view_of w.sent ++ sent_in (tuple_out o) (option_map record_out o)
    by None = sym (append-nil (map view_of w.sent))
    by (Some x) = map-append view_of w.sent _

sent_told : (w : World (List ℕ) ℕ Kept) (r : Reply (List ℕ) ℕ)
    → sent_line (machine_in_octets annex_b) w ((machine_in_octets annex_b).keep r.sent)
    ≡ number_of (length w.sent) (actor_out r).sent
sent_told w r = by r.sent
  where
    by : (o : Option (Outgoing (List ℕ) ℕ))
        → sent_line (machine_in_octets annex_b) w ((machine_in_octets annex_b).keep o)
        ≡ number_of (length w.sent) (option_map record_out o)
    by None = refl
    by (Some x) = refl

-- A STEP

no_coincidence : (o : Option (Coincidence (List ℕ))) → Ok tt ≡ coincidence_told o → o ≡ None
no_coincidence None e = refl
no_coincidence (Some c) e = absurd (ok_is_no_err e)

module _ (stores : Stores) (out : ActorOut) (sender : Option Use) (holder : Holder) (who : Who) (step : ℕ) where
  -- the use under which the record was accepted, as the machine has it
  abbrev coincidence : Reply (List ℕ) ℕ → Option (Coincidence (List ℕ))
  coincidence r = tuple_coincidence bytes_eq (option_map use_in sender) r.accepted

  accepted_is : (r : Reply (List ℕ) ℕ) → out ≡ actor_out r → option_map use_in out.accepted ≡ r.accepted
  accepted_is r is = ap (λ x. option_map use_in x.accepted) is ∙ uses_back r.accepted

  none : (r : Reply (List ℕ) ℕ)
      → out ≡ actor_out r
      → Ok tt
      ≡ coincidence_told (tuple_coincidence bytes_eq (option_map use_in sender) (option_map use_in out.accepted))
      → coincidence r ≡ None
  none r is e = no_coincidence (coincidence r) (e ∙ ap (λ a. coincidence_told (tuple_coincidence bytes_eq (option_map use_in sender) a)) (accepted_is r is))

  -- what the ladder can take
  pub settles_awaits : Settles stores out → Awaits stores.rows out.derived
  settles_awaits s = record {
    origins = (ladder_of bytes_eq s.before.history).rows;
    held = s.before.held;
    made = s.reply.derived;
    keeps = s.fits.rows;
    are = ap (λ x. x.derived) s.is;
    can = can_add s.before s.by s.reply stores s.fits s.can;
  }

  -- and what has a row then
  pub settles_stand : (rows : List LadderRow)
      → Settles stores out
      → AddsAll stores.rows rows out.derived (Ok tt)
      → HasKeys rows (keys_in out.received) × HasRows rows out.derived
  settles_stand rows s all =
      let a = added s.before s.by s.reply stores s.fits s.can rows out.derived (Ok tt) (ap (λ x. x.derived) s.is) all in
      let h = keys_stand s.before s.by s.reply stores s.fits s.can rows a in
      (subst (λ x. HasKeys rows (keys_in x.received)) (sym s.is) h.0, subst (λ x. HasRows rows x.derived) (sym s.is) h.1)

  module _ (tuples : Ok tt ≡ coincidence_told (tuple_coincidence bytes_eq (option_map use_in sender) (option_map use_in out.accepted))) where
    -- a coincidence of a derivation
    pub settled_by_rows : (p : Proof) (rows : List LadderRow) (later : Stores)
        → AddsAll stores.rows rows out.derived (Err p)
        → SettledAs stores later out sender holder who step (Err p)
    settled_by_rows p rows later all w by r f is h ev can =
        subst (λ o. SettledBy o (ladder_of bytes_eq (after w by r).history).clash w by r who later (Err p)) (sym (none r is tuples))
        (at (ladder_of bytes_eq (after w by r).history).clash (added w by r stores f can rows out.derived (Err p) (ap (λ x. x.derived) is) all))
      where
        at : (c : Option (Clash (List ℕ)))
            → AddedBy c (ladder_of bytes_eq (after w by r).history).rows w.held rows (Err p)
            → SettledBy None c w by r who later (Err p)
        at None h = absurd (ok_is_no_err (sym h.0))
        at (Some c) h = cc

    -- none
    pub settled : (rows one two : List LadderRow) (later : Stores) → AddsAll stores.rows rows out.derived (Ok tt) →
        HoldsAll holder (keys_in out.received) rows one →
        HoldsAll holder (map (λ d. d.out) out.derived) one two → later.rows ≡ two →
        later.records ≡ stores.records ++ sent_in out.tuple out.sent → later.uses ≡ stores.uses ++ out.used →
        (line : Line) → line ≡ line_of_reply step who (number_of (length stores.records) out.sent) out →
        SettledAs stores later out sender holder who step (Ok line)
    settled rows one two later all received derived at_two records uses line told w by r f is h ev can =
        let a = added w by r stores f can rows out.derived (Ok tt) (ap (λ x. x.derived) is) all in
        let c = calm_after w by r stores f can rows a in
        let l : Ladder (List ℕ) = ladder_of bytes_eq (after w by r).history in
        let first = received l.rows w.held by c.1 h in
        let second = derived l.rows (w.held ++ holdings by (keys_in out.received)) by first h in
        let held : (w.held ++ holdings by (keys_in out.received)) ++ holdings by (map (λ d. d.out) out.derived) ≡ (after w by r).held =
        ap (λ x. (w.held ++ holdings by (keys_in x.received)) ++ holdings by (map (λ d. d.out) x.derived)) is ∙ all_held by w.held r.received r.derived in
        let fits : Fits (after w by r) later = record {
          records =
              records
              ∙ ap (λ x. x ++ sent_in out.tuple out.sent) f.records
              ∙ ap (λ x. world_records w ++ sent_in x.tuple x.sent) is
              ∙ sym (sent_kept w r);
          uses = uses ∙ ap (λ x. x ++ out.used) f.uses ∙ ap (λ x. world_uses w ++ x.used) is ∙ sym (map-append use_out w.uses (uses_in r.sent));
          calm = c.0;
          rows = subst (λ rs. Keeps l.rows (after w by r).held rs) (sym at_two) (subst (λ x. Keeps l.rows x two) held second);
        } in
        let number : number_of (length stores.records) out.sent ≡ sent_line (machine_in_octets annex_b) w ((machine_in_octets annex_b).keep r.sent) =
        ap (λ n. number_of n out.sent) (ap length f.records ∙ length-map w.sent view_of)
        ∙ ap (λ x. number_of (length w.sent) x.sent) is
        ∙ sym (sent_told w r) in
        let line_is : line ≡ line_out (line_of (machine_in_octets annex_b) w who r) =
        told ∙ (λ j. line_of_reply (sym ev j) who (number j) (is j)) in
        subst (λ o. SettledBy o l.clash w by r who later (Ok line)) (sym (none r is tuples))
        (subst (λ o. SettledBy None o w by r who later (Ok line)) (sym c.0) (ap Ok line_is, fits))

-- THE KEY THAT WAS RECEIVED

pub received_held : (who : Holder) (key : List ℕ) (o : Option (List ℕ)) (before later : List LadderRow)
    → o ≡ Some key
    → HoldsOne who key before later
    → HoldsAll who (keys_in o) before later
received_held who key o before later e h = subst (λ x. HoldsAll who (keys_in x) before later) (sym e) h

pub rows_stand : (before later : List LadderRow) (derived : List Derived)
    → ((key : List ℕ) → HasRow before key → HasRow later key)
    → HasRows before derived
    → HasRows later derived
rows_stand before later derived f h = all_more (λ d. HasRow before d.out) (λ d. HasRow later d.out) (λ d r. f d.out r) derived h

pub held_as : (who : Holder) (before later : List LadderRow) (read derived : List Derived)
    → read ≡ derived
    → HoldsAll who (map (λ d. d.out) read) before later
    → HoldsAll who (map (λ d. d.out) derived) before later
held_as who before later read derived e h = subst (λ x. HoldsAll who (map (λ d. d.out) x) before later) e h
