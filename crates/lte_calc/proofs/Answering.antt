-- The output, line after line.
use Rattle.std.proofs.Common.{◌≡◌, ◌≢◌, ℕ, zero, suc, ◌+◌, ◌<◌, ◌≤◌, ◌&&◌, Bool, true, false, cond, List, [], ◌∷◌, ◌++◌, length, take, refl, sym, ap, subst, ◌∙◌, append_assoc, append-nil, arith}
use Rattle.std.proofs.lemmas.Bool.{lt-ltb, le-ltb, or_parts}
use Rattle.std.proofs.{lemmas.List.Folds.list_all-append, Math.Bool.and-true, Math.Bool.and_assoc, Math.Seq.take-length}
use Rattle.edge_io.proofs.Known.{grows_twice, nothing_out}
use Rattle.edge_io.specs.{Told.Told, Octets.Grows}
use Rattle.calc_text.specs.Answer.{answer_to}
use Rattle.text_lines.specs.Lines.{is_feed, has_feed, ended, last_line}
use Rattle.text_lines.proofs.Ended.{AreWhole, ended_append}
use Rattle.lte_calc.specs.declared.status.Status.{Status}
use Rattle.lte_calc.specs.declared.status.Status.TheVariants.{Done, Memory, WriteFault, TooLong}
use Rattle.lte_calc.specs.Output.{longest_line, at_least_refused, with_answer, output_of}
use Rattle.lte_calc.specs.Run.{IsLine, AreLines, BeginTooLong}
use Rattle.lte_calc.specs.Lines.{ends_of, all_good, LineAt, AnsweredUpTo, StoppedIn, LastAt}

-- lines, and lines behind them
pub are_append : (xs ys : List (List ℕ)) → AreLines xs → AreLines ys → AreLines (xs ++ ys)
are_append [] ys first second = second
are_append (line ∷ xs) ys first second = (first.0, are_append xs ys first.1 second)

pub are_whole : (xs : List (List ℕ)) → AreLines xs → AreWhole xs
are_whole [] are = tt
are_whole (line ∷ xs) are = (are.0.0, are_whole xs are.1)

-- the output for a line that is not too long
next_output : (line : List ℕ) (lines : List (List ℕ)) → length line ≤ longest_line → output_of (line ∷ lines) ≡ with_answer (answer_to line) (output_of lines)
unfolding output_of
next_output line lines short = rw (le-ltb longest_line (length line) short) refl

pub no_output : output_of [] ≡ record { text = []; ends = Done }
unfolding output_of
no_output = refl

pub text_append : (xs ys : List (List ℕ)) → AreLines xs → (output_of (xs ++ ys)).text ≡ (output_of xs).text ++ (output_of ys).text
text_append [] ys are = ap (λ o. o.text ++ (output_of ys).text) (sym no_output)
text_append (line ∷ xs) ys are =
    let answer = (answer_to line).text in
    ap (λ o. o.text) (next_output line (xs ++ ys) are.0.1)
    ∙ ap (λ t. answer ++ t) (text_append xs ys are.1)
    ∙ sym (append_assoc answer (output_of xs).text (output_of ys).text)
    ∙ ap (λ o. o.text ++ (output_of ys).text) (sym (next_output line xs are.0.1))

pub one_text : (line : List ℕ) → length line ≤ longest_line → (output_of (line ∷ [])).text ≡ (answer_to line).text
one_text line short = ap (λ o. o.text) (next_output line [] short) ∙ ap (λ o. (answer_to line).text ++ o.text) no_output ∙ append-nil (answer_to line).text

refused_or : (good : Bool) → (all : Bool) → cond good (ends_of all) (at_least_refused (ends_of all)) ≡ ends_of (good && all)
refused_or true all = refl
refused_or false true = refl
refused_or false false = refl

pub ends_is : (xs : List (List ℕ)) → AreLines xs → (output_of xs).ends ≡ ends_of (all_good xs)
ends_is [] are = ap (λ o. o.ends) no_output
ends_is (line ∷ xs) are =
    let good = (answer_to line).good in
    ap (λ o. o.ends) (next_output line xs are.0.1) ∙ ap (λ e. cond good e (at_least_refused e)) (ends_is xs are.1) ∙ refused_or good (all_good xs)

-- lines before one that is too long
pub ends_too_long : (xs : List (List ℕ)) (line : List ℕ) (more : List (List ℕ))
    → AreLines xs
    → longest_line < length line
    → ((output_of (xs ++ line ∷ more)).ends ≡ TooLong) × ((output_of (xs ++ line ∷ more)).text ≡ (output_of xs).text)
unfolding output_of
ends_too_long [] line more are long = rw (lt-ltb longest_line (length line) long) (refl, refl)
ends_too_long (first ∷ xs) line more are long =
    let rest = ends_too_long xs line more are.1 long in
    rw (le-ltb longest_line (length first) are.0.1) (
      too_long (answer_to first).good (output_of (xs ++ line ∷ more)).ends rest.0,
      ap (λ t. (answer_to first).text ++ t) rest.1,
    )
  where
    too_long : (good : Bool) (e : Status) → e ≡ TooLong → cond good e (at_least_refused e) ≡ TooLong
    too_long true e is = is
    too_long false e is = ap at_least_refused is

one_ended : (line after : List ℕ) → line ++ (10 ∷ after) ≡ ended (line ∷ []) ++ after
unfolding ended
one_ended line after = sym (append_assoc line (10 ∷ []) after)

-- one line more is answered
pub one_more : (text rest after line : List ℕ) (good good' good'' : Bool) (out mid now : Told)
    → AnsweredUpTo text rest good good' out mid
    → IsLine line
    → rest ≡ line ++ (10 ∷ after)
    → LineAt Done (answer_to line) good' good'' mid now
    → AnsweredUpTo text after good good'' out now
one_more text rest after line good good' good'' out mid now so_far is cut written =
    let lines = so_far.lines in
    let more : List (List ℕ) = line ∷ [] in
    let Written : List ℕ → Type 0 = λ t. Grows out.written now.written t in
    record {
      lines = lines ++ more;
      are = are_append lines more so_far.are (is, tt);
      is =
          so_far.is
          ∙ ap (λ os. ended lines ++ os) (cut ∙ one_ended line after)
          ∙ sym (append_assoc (ended lines) (ended more) after)
          ∙ ap (λ os. os ++ after) (sym (ended_append lines more));
      status = written.0 ∙ ap (λ g. g && (answer_to line).good) so_far.status ∙ and_assoc good (all_good lines) (answer_to line).good
          ∙ ap (λ g. good && (all_good lines && g)) (sym (and-true (answer_to line).good))
          ∙ ap (λ g. good && g) (sym (list_all-append (λ l. (answer_to l).good) lines more));
      grows =
          subst Written
          (ap (λ t. (output_of lines).text ++ t) (sym (one_text line is.1)) ∙ sym (text_append lines more so_far.are))
          (grows_twice out.written mid.written now.written (output_of lines).text (answer_to line).text
          so_far.grows written.1);
    }

-- none is answered yet
pub none_answered : (text : List ℕ) (good : Bool) (out : Told) → AnsweredUpTo text text good good out out
unfolding ended
none_answered text good out = record {
  lines = [];
  are = tt;
  is = refl;
  status = sym (and-true good);
  grows = subst (λ o. Grows out.written out.written o.text) (sym no_output) (nothing_out out.written);
}

-- octets that begin octets with no line feed
feedless : (octets : List ℕ) (n k : ℕ) → has_feed (take k octets) ≡ false → n ≤ k → has_feed (take n octets) ≡ false
feedless octets zero k none within = refl
feedless [] (suc n) k none within = refl
feedless (octet ∷ octets) (suc n) zero none within = absurd (omega (arith, within))
feedless (octet ∷ octets) (suc n) (suc k) none within =
    let parts = or_parts (is_feed octet) (has_feed (take k octets)) none in
    rw (parts.0, feedless octets n k parts.1 (omega (arith, within))) refl

pub too_long_at : (rest : List ℕ) (k : ℕ) → has_feed (take k rest) ≡ false → k < length rest → longest_line < k → BeginTooLong rest
too_long_at rest k none within long = (omega (arith, within, long), feedless rest (longest_line + 1) k none (omega (arith, long)))

pub too_long_whole : (rest : List ℕ) → has_feed rest ≡ false → longest_line < length rest → BeginTooLong rest
too_long_whole rest none long =
    (long, feedless rest (longest_line + 1) (length rest) (ap has_feed (take-length rest) ∙ none) (omega (arith, long)))

-- a line at which the run ends
pub stopped_long : (text rest : List ℕ) (good good' : Bool) (out out' : Told)
    → AnsweredUpTo text rest good good' out out'
    → BeginTooLong rest
    → StoppedIn TooLong text out out'
stopped_long text rest good good' out out' so_far long =
    record { lines = so_far.lines; rest = rest; are = so_far.are; is = so_far.is; at = (long, so_far.grows) }

pub stopped_at : (status : Status) (text rest line after : List ℕ) (good good' good'' : Bool) (out mid now : Told)
    → AnsweredUpTo text rest good good' out mid
    → mid.write_faults ≡ out.write_faults
    → IsLine line
    → rest ≡ line ++ (10 ∷ after)
    → LineAt status (answer_to line) good' good'' mid now
    → status ≢ Done
    → StoppedIn status text out now
stopped_at Done text rest line after good good' good'' out mid now so_far none is cut at other = absurd (other refl)
stopped_at Memory text rest line after good good' good'' out mid now so_far none is cut at other =
    let first = (output_of so_far.lines).text in
    record {
      lines = so_far.lines;
      rest = rest;
      are = so_far.are;
      is = so_far.is;
      at = subst (λ t. Grows out.written now.written t) (append-nil first) (grows_twice out.written mid.written now.written first [] so_far.grows at);
    }
stopped_at WriteFault text rest line after good good' good'' out mid now so_far none is cut at other =
    let first = (output_of so_far.lines).text in
    record {
      lines = so_far.lines;
      rest = rest;
      are = so_far.are;
      is = so_far.is;
      at = (
        omega (arith, at.0, none),
        record {
          line = line;
          more = after;
          next = cut;
          is = is;
          count = at.1.count;
          short = at.1.short;
          written = grows_twice out.written mid.written now.written first (take at.1.count (answer_to line).text) so_far.grows at.1.grows;
        },
      );
    }
stopped_at status text rest line after good good' good'' out mid now so_far none is cut at other = absurd at

-- octets of no length
pub empty_is : (octets : List ℕ) → length octets ≡ 0 → octets ≡ []
empty_is [] none = refl
empty_is (octet ∷ octets) none = absurd (omega (arith, none))

-- the last line
pub last_none : (good : Bool) (out : Told) → LastAt (ends_of good) [] good out out
last_none true out = (refl, subst (λ o. Grows out.written out.written o.text) (sym no_output) (nothing_out out.written))
last_none false out = (refl, subst (λ o. Grows out.written out.written o.text) (sym no_output) (nothing_out out.written))

last_at : (b good : Bool) (line : List ℕ) (out out' : Told)
    → (good && all_good (last_line line)) ≡ b
    → Grows out.written out'.written (output_of (last_line line)).text
    → LastAt (ends_of b) line good out out'
last_at true good line out out' is grows = (is, grows)
last_at false good line out out' is grows = (is, grows)

pub last_done : (line : List ℕ) (good good' : Bool) (out out' : Told)
    → 0 < length line
    → IsLine line
    → LineAt Done (answer_to line) good good' out out'
    → LastAt (ends_of good') line good out out'
last_done [] good good' out out' some is at = absurd (omega (arith, some))
last_done (octet ∷ octets) good good' out out' some is at =
    last_at good' good (octet ∷ octets) out out'
    (ap (λ g. good && g) (and-true (answer_to (octet ∷ octets)).good) ∙ sym at.0)
    (subst (λ t. Grows out.written out'.written t) (sym (one_text (octet ∷ octets) is.1)) at.1)

pub last_ended : (status : Status) (line : List ℕ) (good good' : Bool) (out out' : Told)
    → 0 < length line
    → IsLine line
    → LineAt status (answer_to line) good good' out out'
    → status ≢ Done
    → LastAt status line good out out'
last_ended Done line good good' out out' some is at other = absurd (other refl)
last_ended Memory line good good' out out' some is at other = at
last_ended WriteFault [] good good' out out' some is at other = absurd (omega (arith, some))
last_ended WriteFault (octet ∷ octets) good good' out out' some is at other = (refl, at.0, at.1)
last_ended status line good good' out out' some is at other = absurd at
