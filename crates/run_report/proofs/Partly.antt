-- A text or a report of which a part is written, and the rest is to be.
use Rattle.std.proofs.Common.{◌≡◌, ◌≢◌, refl, sym, ap, subst, ◌∙◌, arith, Result, Ok, Err, List, [], ◌++◌, append_assoc, append-nil, ℕ}
use Rattle.std.specs.{Prelude.IsTrue, Result.result_and}
use Rattle.std.proofs.Math.Nat.{le_refl}
use Rattle.edge_io.proofs.Known.{nothing_out, none_of, grows_twice, prefix_on, proper_prefix_on}
use Rattle.edge_io.specs.{Told.Told, Cause.NoFault, Used.UsedAsSink}
use Rattle.edge_io.specs.Octets.{Grows, GrowsByPrefix, GrowsByProperPrefix}
use Rattle.growth.specs.Growth.{WasRefused}
use Rattle.run_report.specs.{declared.endings.Ending.Ending, declared.unwritten.Unwritten.Unwritten, Report.Report, Report.before}
use Rattle.run_report.specs.declared.endings.Ending.TheVariants.{Done, Chance}
use Rattle.run_report.specs.declared.unwritten.Unwritten.TheVariants.{Memory, WriteFault}
use Rattle.run_report.specs.Written.{Written, WritesText, WritesReport}

-- THE SINK

no_fault_on : {first mid now : Told} → NoFault first mid → NoFault mid now → NoFault first now
no_fault_on a b = record { reads = b.reads ∙ a.reads; writes = b.writes ∙ a.writes; opens = b.opens ∙ a.opens }

used_on : {first mid now : Told} → UsedAsSink first mid → UsedAsSink mid now → UsedAsSink first now
used_on a b = record {
  ready = b.ready;
  left = b.left ∙ a.left;
  most = b.most ∙ a.most;
  ended = b.ended ∙ a.ended;
  lines = b.lines ∙ a.lines;
  counts = record {
    reads = omega (arith, a.counts.reads, b.counts.reads);
    writes = omega (arith, a.counts.writes, b.counts.writes);
    opens = omega (arith, a.counts.opens, b.counts.opens);
  };
}

unused : (now : Told) → IsTrue now.ready → UsedAsSink now now
unused now ready = record {
  ready = ready;
  left = refl;
  most = refl;
  ended = refl;
  lines = refl;
  counts = record { reads = le_refl now.read_faults; writes = le_refl now.write_faults; opens = le_refl now.open_faults };
}

-- A TEXT

-- its front is written, and no fault was met
pub record Partly (whole rest : List ℕ) (first now : Told) : Type 0 where
  pub front : List ℕ
  pub grown : Grows first.written now.written front
  pub parts : whole ≡ front ++ rest
  pub no_fault : NoFault first now
  pub used : UsedAsSink first now

-- what is to be written begins with a piece
pub record Begins (rest piece left : List ℕ) : Type 0 where
  pub is : rest ≡ piece ++ left

one_left : (rest : List ℕ) → Begins rest rest []
one_left rest = record { is = sym (append-nil rest) }

two_left : (one two : List ℕ) → Begins (one ++ two) one two
two_left one two = record { is = refl }

pub none_written : (whole : List ℕ) (first : Told) → IsTrue first.ready → Partly whole whole first first
none_written whole first ready = record {
  front = [];
  grown = nothing_out first.written;
  parts = refl;
  no_fault = record { reads = refl; writes = refl; opens = refl };
  used = unused first ready;
}

-- a piece more
pub more_written : {A : Type 0} {done : A} {whole rest piece left : List ℕ} {first mid now : Told}
    → Partly whole rest first mid
    → Begins rest piece left
    → WritesText piece (Ok done) mid now
    → Partly whole left first now
more_written {piece} {left} {first} {mid} {now} s begins w = record {
  front = s.front ++ piece;
  grown = grows_twice first.written mid.written now.written s.front piece s.grown w.written;
  parts = s.parts ∙ ap (λ r. s.front ++ r) begins.is ∙ sym (append_assoc s.front piece left);
  no_fault = no_fault_on s.no_fault (w.no_fault (λ e. cc));
  used = used_on s.used w.used;
}

-- all of it
pub all_written : {A : Type 0} {done : A} {whole rest : List ℕ} {first now : Told}
    → Partly whole rest first now
    → rest ≡ []
    → WritesText whole (Ok done) first now
all_written {whole} {first} {now} s none = record {
  written = subst (Grows first.written now.written) (sym (s.parts ∙ ap (λ r. s.front ++ r) none ∙ append-nil s.front)) s.grown;
  no_fault = λ differs. s.no_fault;
  refused = λ e. cc;
  used = s.used;
}

-- a piece that was cut
pub cut_written : {A B : Type 0} {fault : Unwritten} {whole rest piece left : List ℕ} {first mid now : Told}
    → Partly whole rest first mid
    → Begins rest piece left
    → WritesText {A = A} piece (Err fault) mid now
    → WritesText {A = B} whole (Err fault) first now
cut_written {A} {B} {fault} {whole} {rest} {piece} {left} {first} {mid} {now} s begins w = record {
  written = by fault w.written;
  no_fault = λ differs. no_fault_on s.no_fault (w.no_fault (clear fault differs));
  refused = λ e. w.refused (same fault e);
  used = used_on s.used w.used;
}
  where
    parts : whole ≡ (s.front ++ piece) ++ left
    parts = s.parts ∙ ap (λ r. s.front ++ r) begins.is ∙ sym (append_assoc s.front piece left)

    by : (f : Unwritten) → Written {A = A} piece (Err f) mid now → Written {A = B} whole (Err f) first now
    by Memory cut =
        subst (λ t. GrowsByPrefix first.written now.written t) (sym parts)
        (prefix_on first.written mid.written now.written s.front piece left s.grown cut)
    by WriteFault cut = (
      omega (arith, s.used.counts.writes, cut.0),
      subst (λ t. GrowsByProperPrefix first.written now.written t) (sym parts)
          (proper_prefix_on first.written mid.written now.written s.front piece left s.grown cut.1),
    )

    clear : (f : Unwritten) → ◌≢◌ {A = Result B Unwritten} (Err f) (Err WriteFault) → ◌≢◌ {A = Result A Unwritten} (Err f) (Err WriteFault)
    clear Memory differs = λ e. cc
    clear WriteFault differs = absurd (differs refl)

    same : (f : Unwritten) → ◌≡◌ {A = Result B Unwritten} (Err f) (Err Memory) → ◌≡◌ {A = Result A Unwritten} (Err f) (Err Memory)
    same Memory e = refl
    same WriteFault e = cc

-- the last piece
pub last_written : {A B : Type 0} {done : A} {more : B} {whole rest : List ℕ} {first mid now : Told}
    → Partly whole rest first mid
    → WritesText rest (Ok done) mid now
    → WritesText whole (Ok more) first now
last_written {rest} s w = all_written (more_written s (one_left rest) w) refl

pub last_cut : {A B : Type 0} {fault : Unwritten} {whole rest : List ℕ} {first mid now : Told}
    → Partly whole rest first mid
    → WritesText {A = A} rest (Err fault) mid now
    → WritesText {A = B} whole (Err fault) first now
last_cut {rest} s w = cut_written s (one_left rest) w

-- two pieces
pub both_written : {A B : Type 0} {done : A} {first mid now : Told} (result : Result B Unwritten) (one two : List ℕ)
    → IsTrue first.ready
    → WritesText one (Ok done) first mid
    → WritesText two result mid now
    → WritesText (one ++ two) result first now
both_written {first} (Ok more) one two ready a b = last_written (more_written (none_written (one ++ two) first ready) (two_left one two) a) b
both_written {first} (Err fault) one two ready a b = last_cut (more_written (none_written (one ++ two) first ready) (two_left one two) a) b

pub first_cut : {A B : Type 0} {fault : Unwritten} {first now : Told} (one two : List ℕ)
    → IsTrue first.ready
    → WritesText {A = A} one (Err fault) first now
    → WritesText {A = B} (one ++ two) (Err fault) first now
first_cut {first} one two ready cut = cut_written (none_written (one ++ two) first ready) (two_left one two) cut

-- nothing, for want of memory
pub unwritten : {A : Type 0} (text : List ℕ) (now : Told) → WasRefused → IsTrue now.ready → WritesText {A = A} text (Err Memory) now now
unwritten text now refused ready = record {
  written = none_of now.written text;
  no_fault = λ differs. record { reads = refl; writes = refl; opens = refl };
  refused = λ e. refused;
  used = unused now ready;
}

-- A REPORT

-- a piece of a report and what comes behind it, where no coincidence ends it
abbrev pub followed_if : Ending → Report → Report → Report
followed_if Chance piece rest = piece
followed_if Done piece rest = before piece.text rest

abbrev pub followed : Report → Report → Report
followed piece rest = followed_if piece.ends piece rest

-- what is to be reported begins with a piece
pub record Follows (rest piece left : Report) : Type 0 where
  pub is : rest ≡ followed piece left

pub record ReportPartly (whole rest : Report) (first now : Told) : Type 0 where
  pub text : Partly whole.text rest.text first now
  pub ends : whole.ends ≡ rest.ends

pub none_reported : {whole rest : Report} (first : Told) → IsTrue first.ready → whole ≡ rest → ReportPartly whole rest first first
none_reported {whole} first ready is = subst (λ r. ReportPartly whole r first first) is
    (record { text = none_written whole.text first ready; ends = refl })

-- a piece more, which is no coincidence
pub more_reported : {ending : Ending} {whole rest piece left : Report} {first mid now : Told}
    → ReportPartly whole rest first mid
    → Follows rest piece left
    → ending ≡ Done
    → WritesReport piece (Ok ending) mid now
    → ReportPartly whole left first now
more_reported {rest} {piece} {left} s follows plain w =
    let goes : piece.ends ≡ Done = sym w.ends ∙ plain in
    let more = follows.is ∙ ap (λ e. followed_if e piece left) goes in
    let begins : Begins rest.text piece.text left.text = record { is = ap (λ r. r.text) more } in
    record { text = more_written s.text begins w.text; ends = s.ends ∙ ap (λ r. r.ends) more }

-- the coincidence that ends it
pub coincidence_reported : {ending : Ending} {whole rest piece left : Report} {first mid now : Told}
    → ReportPartly whole rest first mid
    → Follows rest piece left
    → ending ≡ Chance
    → WritesReport piece (Ok ending) mid now
    → WritesReport whole (Ok Chance) first now
coincidence_reported {rest} {piece} {left} s follows coincides w =
    let stops : piece.ends ≡ Chance = sym w.ends ∙ coincides in
    let last = follows.is ∙ ap (λ e. followed_if e piece left) stops in
    let begins : Begins rest.text piece.text [] = record { is = ap (λ r. r.text) last ∙ sym (append-nil piece.text) } in
    record { text = all_written (more_written s.text begins w.text) refl; ends = sym (s.ends ∙ ap (λ r. r.ends) last ∙ stops) }

-- a piece that was cut
begins_with : (piece left : Report) (ending : Ending) → (more : List ℕ) × ((followed_if ending piece left).text ≡ piece.text ++ more)
begins_with piece left Chance = ([], sym (append-nil piece.text))
begins_with piece left Done = (left.text, refl)

pub cut_reported : {fault : Unwritten} {whole rest piece left : Report} {first mid now : Told}
    → ReportPartly whole rest first mid
    → Follows rest piece left
    → WritesReport piece (Err fault) mid now
    → WritesReport whole (Err fault) first now
cut_reported {rest} {piece} {left} s follows w =
    let more = begins_with piece left piece.ends in
    let begins : Begins rest.text piece.text more.0 = record { is = ap (λ r. r.text) follows.is ∙ more.1 } in
    record { text = cut_written s.text begins w.text; ends = tt }

-- nothing, for want of memory
pub unreported : (report : Report) (now : Told) → WasRefused → IsTrue now.ready → WritesReport report (Err Memory) now now
unreported report now refused ready = record { text = unwritten report.text now refused ready; ends = tt }

-- its last piece, behind which the report ends so
pub last_reported : {A : Type 0} {ending : Ending} {result : Result Ending Unwritten} {whole rest : Report} {text : List ℕ} {first mid now : Told}
    (written : Result A Unwritten)
    → ReportPartly whole rest first mid
    → rest ≡ record { text = text; ends = ending }
    → WritesText text written mid now
    → result ≡ result_and written (Ok ending)
    → WritesReport whole result first now
last_reported {A} {ending} {whole} {text} {first} {mid} {now} written s is w ends =
    subst (λ r. WritesReport whole r first now) (sym ends) (by written w)
  where
    partly : Partly whole.text text first mid
    partly = subst (λ r. Partly whole.text r.text first mid) is s.text

    by : (r : Result A Unwritten) → WritesText text r mid now → WritesReport whole (result_and r (Ok ending)) first now
    by (Ok done) w = record { text = last_written partly w; ends = sym (s.ends ∙ ap (λ r. r.ends) is) }
    by (Err fault) w = record { text = last_cut partly w; ends = tt }

-- a report of one piece
pub one_piece : {A : Type 0} {ending : Ending} {result : Result Ending Unwritten} {report : Report} {text : List ℕ} {first now : Told}
    (written : Result A Unwritten)
    → report ≡ record { text = text; ends = ending }
    → IsTrue first.ready
    → WritesText text written first now
    → result ≡ result_and written (Ok ending)
    → WritesReport report result first now
one_piece {first} written is ready w ends = last_reported written (none_reported first ready refl) is w ends

-- a coincidence does not go on
pub never_done : {A : Type 0} {result : Result Ending Unwritten} (written : Result A Unwritten) → result ≡ result_and written (Ok Chance) → result ≢ Ok Done
never_done (Ok done) ends is = let clash : ◌≡◌ {A = Result Ending Unwritten} (Ok Chance) (Ok Done) = sym ends ∙ is in cc
never_done (Err fault) ends is = let clash : ◌≡◌ {A = Result Ending Unwritten} (Err fault) (Ok Done) = sym ends ∙ is in cc
