-- The NAS part of a core, and the whole core around it (TS 24.301 4.4, TS 33.401 7.2.6.2 and 7.2.9.2).
use Rattle.std.specs.Prelude.{ℕ, ◌+◌, ◌==◌, nat_le, Bool, true, false, if◌then◌else◌, List, ◌∷◌, map, replicate, Option, Some, None}
use Rattle.alg_choice.specs.{declared.algs.Eea.Eea, declared.caps.Caps.Caps}
use Rattle.key_model.specs.{Derivation.derived_of, Derivation.kenb_made, Reading.octet_reading}
use Rattle.lte_events.specs.{Site.Site, declared.replies.ActorOut.ActorOut, declared.setups.FirstNcc.FirstNcc}
use Rattle.lte_machine.specs.{Calls.note_out, Calls.record_out, CoreChoice.NUMBERS}
use Rattle.lte_machine.specs.CoreKeys.{chain_from, nh_kept, to_station}
use Rattle.lte_machine.specs.CoreState.{Core, CorePartial, CoreContext, CoreLink}
use Rattle.nas_guard.specs.{Keys.Keys, Open.header_in}
use Rattle.rec_base.specs.declared.ways.Way.TheVariants.{Initial}
use Rattle.s1x2_rec.specs.Fields.{ContextModification}
use Rattle.nas_smc.specs.{declared.reply.NasOut.NasOut, NasOut.core_reply}

-- what an authentication left, and the keys of the procedure that is open for it
pub record CoreLeft : Type 0 where
  pub partial : CorePartial (List ℕ)
  pub procedure : Option (Keys (List ℕ))

-- what a core keeps for NAS
pub record CorePart : Type 0 where
  -- its list of encryption algorithms, the first the best
  pub priority : List Eea
  -- what the latest authentication left
  pub left : Option CoreLeft
  -- the context in use
  pub context : Option (CoreContext (List ℕ))

abbrev pub partial_in : Option CoreLeft → Option (CorePartial (List ℕ))
partial_in None = None
partial_in (Some l) = Some l.partial

abbrev pub procedure_in : Option CoreLeft → Option (Keys (List ℕ))
procedure_in None = None
procedure_in (Some l) = l.procedure

-- the same with no procedure open
abbrev pub closed : CoreLeft → CoreLeft
closed l = record l { procedure = None }

-- what else a core keeps
pub record CoreRest : Type 0 where
  pub cells : List Site
  -- the NCC of the first pair that it sends for a chain
  pub first_ncc : FirstNcc
  -- the capabilities of the latest authentication
  pub latest : Caps
  -- the uplink NAS COUNT that triggers a connection
  pub trigger : Option ℕ
  -- the next connection number
  pub next : ℕ
  -- the connection
  pub link : Option (CoreLink (List ℕ) ℕ)
  -- of each station the greatest attempt and the greatest path switch request seen
  pub attempts : List ℕ
  pub requests : List ℕ

-- of a core that has authenticated nobody
abbrev pub first_rest : List Site → ℕ → FirstNcc → CoreRest
first_rest cells first first_ncc = record {
  cells = cells;
  first_ncc = first_ncc;
  latest = record { eea = 0; eia = 0 };
  trigger = None;
  next = first;
  link = None;
  attempts = replicate 8 0;
  requests = replicate 8 0;
}

-- the core with this NAS part and this rest
abbrev pub core_of : CorePart → CoreRest → Core (List ℕ) ℕ
core_of s rest = record {
  cells = rest.cells;
  priority = s.priority;
  first_ncc = rest.first_ncc;
  latest = rest.latest;
  partial = partial_in s.left;
  procedure = procedure_in s.left;
  context = s.context;
  trigger = rest.trigger;
  next = rest.next;
  link = rest.link;
  attempts = rest.attempts;
  requests = rest.requests;
}

-- the header type of a message with a new context, which at a core is a SECURITY MODE COMPLETE (TS 24.301 9.3.1)
abbrev pub is_for_new_context : List ℕ → Bool
is_for_new_context pdu = header_in pdu == 4

-- a message asks for a connection: its COUNT is the trigger (TS 33.401 7.2.6.2)
abbrev pub triggers : Core (List ℕ) ℕ → NasOut → ℕ → Core (List ℕ) ℕ × ActorOut
triggers s out count = (record s { trigger = Some count }, core_reply out)

-- the key of a connection with this number at this station changes at once, to KeNB of this KASME and COUNT, and the connection
-- goes on under the next number (TS 33.401 7.2.9.2 and A.3)
abbrev pub changed : Core (List ℕ) ℕ → NasOut → List ℕ → ℕ → ℕ → ℕ → ℕ → Core (List ℕ) ℕ × ActorOut
changed s out root count conn station next =
    let r = octet_reading in
    let kenb = r.kenb root count in (
      record s {
        trigger = None;
        next = next + 1;
        link = Some (record { conn = next; chain = chain_from r s.first_ncc root kenb; station = station });
      },
      record (core_reply out) {
        sent = Some (record_out (to_station station (ContextModification conn next) (Some (record { key = kenb; number = r.first }))));
        derived = map derived_of (kenb_made r root count ∷ nh_kept r s.first_ncc root kenb);
        note = Some (note_out (record { ncc = r.ncc r.first; way = Initial; key = kenb }));
      },
    )

abbrev pub changes : Core (List ℕ) ℕ → NasOut → ℕ → CoreLink (List ℕ) ℕ → Option (CoreContext (List ℕ)) → Core (List ℕ) ℕ × ActorOut
changes s out count link None = (s, core_reply out)
changes s out count link (Some c) = changed s out c.nas.root count link.conn link.station s.next

-- a new context is in use: a connection that stands changes its key, if a number is left for it (TS 33.401 7.2.9.2)
abbrev pub completes : Core (List ℕ) ℕ → NasOut → ℕ → Option (CoreLink (List ℕ) ℕ) → Core (List ℕ) ℕ × ActorOut
completes s out count None = triggers s out count
completes s out count (Some link) =
    if nat_le NUMBERS s.next then triggers s out count else changes s out count link s.context

-- the whole core after a call of its NAS part, and its reply: first by whether a message asked for a connection, which the
-- COUNT of it tells, and then by whether that message made a new context
abbrev pub asked : Core (List ℕ) ℕ → NasOut → Option ℕ → Bool → Core (List ℕ) ℕ × ActorOut
asked s out None new = (s, core_reply out)
asked s out (Some count) false = triggers s out count
asked s out (Some count) true = completes s out count s.link

abbrev pub core_after : Core (List ℕ) ℕ → NasOut → Bool → Core (List ℕ) ℕ × ActorOut
core_after s out new = asked s out out.trigger new
