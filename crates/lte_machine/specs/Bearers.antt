-- The six radio bearers of a connection and their COUNTs (TS 36.323 7.1), at the phone and at a station.
use Rattle.std.specs.Prelude.{ℕ, ◌+◌, ◌-◌, min, nat_le, Bool}
use Rattle.rec_base.specs.declared.bearers.Bearer.{Bearer}
use Rattle.rec_base.specs.declared.bearers.Bearer.TheVariants.{Srb1, Srb2, Drb1, Drb2, Drb3, Drb4}
use Rattle.pdcp_guard.specs.Counts.{Counts, count_limit}

-- SRB1 and SRB2 (TS 36.331 4.2.2)
pub data Srb : Type 0 where
  Signalling1 Signalling2 : Srb

-- DRB1 to DRB4, those of this profile
pub data Drb : Type 0 where
  User1 User2 User3 User4 : Drb

-- a bearer is one or the other
pub data Which : Type 0 where
  OnSrb : Srb → Which
  OnDrb : Drb → Which

abbrev pub which : Bearer → Which
which Srb1 = OnSrb Signalling1
which Srb2 = OnSrb Signalling2
which Drb1 = OnDrb User1
which Drb2 = OnDrb User2
which Drb3 = OnDrb User3
which Drb4 = OnDrb User4

abbrev pub of_srb : Srb → Bearer
of_srb Signalling1 = Srb1
of_srb Signalling2 = Srb2

abbrev pub of_drb : Drb → Bearer
of_drb User1 = Drb1
of_drb User2 = Drb2
of_drb User3 = Drb3
of_drb User4 = Drb4

-- the COUNTs of the six bearers
pub record Bearers : Type 0 where
  pub srb1 : Counts
  pub srb2 : Counts
  pub drb1 : Counts
  pub drb2 : Counts
  pub drb3 : Counts
  pub drb4 : Counts

-- all COUNTs start at 0, in a new connection and after each handover (TS 33.401 7.2.8.4, TS 36.323 5.2)
abbrev pub at_zero : Counts
at_zero = record { send = 0; receive = 0 }

abbrev pub new_bearers : Bearers
new_bearers = record { srb1 = at_zero; srb2 = at_zero; drb1 = at_zero; drb2 = at_zero; drb3 = at_zero; drb4 = at_zero }

abbrev pub srb_counts : Srb → Bearers → Counts
srb_counts Signalling1 b = b.srb1
srb_counts Signalling2 b = b.srb2

abbrev pub drb_counts : Drb → Bearers → Counts
drb_counts User1 b = b.drb1
drb_counts User2 b = b.drb2
drb_counts User3 b = b.drb3
drb_counts User4 b = b.drb4

-- the bearers with these COUNTs on one of them
abbrev pub with_srb : Srb → Counts → Bearers → Bearers
with_srb Signalling1 c b = record b { srb1 = c }
with_srb Signalling2 c b = record b { srb2 = c }

abbrev pub with_drb : Drb → Counts → Bearers → Bearers
with_drb User1 c b = record b { drb1 = c }
with_drb User2 c b = record b { drb2 = c }
with_drb User3 c b = record b { drb3 = c }
with_drb User4 c b = record b { drb4 = c }

-- the next COUNT was sent with
abbrev pub one_sent : Counts → Counts
one_sent c = record { send = c.send + 1; receive = c.receive }

-- a PDU of this COUNT was taken
abbrev pub one_taken : ℕ → Counts → Counts
one_taken count c = record { send = c.send; receive = count + 1 }

-- a next COUNT after n more were left out, at most its end; it never falls
abbrev pub skipped : ℕ → ℕ → ℕ → ℕ
skipped n count end = count + min n (end - count)

abbrev pub some_skipped : ℕ → Counts → Counts
some_skipped n c = record { send = skipped n c.send count_limit; receive = c.receive }

abbrev pub srb_sent : Srb → Bearers → Bearers
srb_sent srb b = with_srb srb (one_sent (srb_counts srb b)) b

abbrev pub drb_sent : Drb → Bearers → Bearers
drb_sent drb b = with_drb drb (one_sent (drb_counts drb b)) b

abbrev pub srb_taken : Srb → ℕ → Bearers → Bearers
srb_taken srb count b = with_srb srb (one_taken count (srb_counts srb b)) b

abbrev pub drb_taken : Drb → ℕ → Bearers → Bearers
drb_taken drb count b = with_drb drb (one_taken count (drb_counts drb b)) b

abbrev pub skipped_on : Which → ℕ → Bearers → Bearers
skipped_on (OnSrb srb) n b = with_srb srb (some_skipped n (srb_counts srb b)) b
skipped_on (OnDrb drb) n b = with_drb drb (some_skipped n (drb_counts drb b)) b

-- no COUNT is left to send with
abbrev pub is_spent : Counts → Bool
is_spent c = nat_le count_limit c.send
