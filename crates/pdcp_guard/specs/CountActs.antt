-- What is done on a radio bearer, act by act, and the COUNTs that are sent.
use Rattle.std.specs.Prelude.{ℕ, List, [], ◌∷◌, Result, Ok, Err}
use Rattle.pdcp_guard.specs.declared.pdus.PdcpFault.{PdcpFault}
use Rattle.pdcp_guard.specs.Counts.{BearerState, after_receive, after_send, send_count, sends_next, skipped}

-- what an SRB or a DRB is asked to do
pub data BearerAct : Type 0 where
  -- to send a text
  Send : BearerAct
  -- to leave out so many COUNTs
  Skip : ℕ → BearerAct
  -- to take a received PDU of this COUNT, or to refuse one
  Receive : Result ℕ PdcpFault → BearerAct

-- the bearer after an act, as the functions of SRBs and DRBs leave it
abbrev pub after_act : BearerState → BearerAct → BearerState
after_act b Send = after_send b (send_count b)
after_act b (Skip n) = sends_next b (skipped b.counts.send n)
after_act b (Receive taken) = after_receive b taken

-- the COUNT of a sending before those sent later; a refused sending has none
abbrev pub sent_before : Result ℕ PdcpFault → List ℕ → List ℕ
sent_before (Ok count) later = count ∷ later
sent_before (Err fault) later = later

-- the COUNTs that are sent over these acts, in their order
abbrev pub counts_sent : BearerState → List BearerAct → List ℕ
counts_sent b [] = []
counts_sent b (Send ∷ acts) = sent_before (send_count b) (counts_sent (after_act b Send) acts)
counts_sent b (act ∷ acts) = counts_sent (after_act b act) acts
