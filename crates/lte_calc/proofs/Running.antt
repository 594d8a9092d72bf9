-- The run, piece after piece.
use Rattle.std.proofs.Common.{◌≡◌, ℕ, suc, ◌+◌, ◌≤◌, ◌&&◌, Bool, true, false, Option, Some, None, List, [], ◌∷◌, ◌++◌, length, length-append, take, refl, sym, ap, subst, ◌∙◌, append_assoc, append-nil, arith, inl, inr}
use Rattle.std.proofs.{lemmas.List.take-append-le, lemmas.List.Folds.list_all-append}
use Rattle.std.specs.Io.KnownBytes.{IsAtEnd, prepend_known}
use Rattle.edge_io.proofs.Known.{gives_none, gives_twice, grows_twice, nothing_out}
use Rattle.edge_io.specs.{Told.Told, Told.HasEnded, Octets.Grows}
use Rattle.calc_text.specs.Answer.{answer_to}
use Rattle.text_lines.specs.Lines.{has_feed, lines_of, ended, last_line}
use Rattle.text_lines.proofs.Ended.{ended_append, lines_first, lines_last, long_first}
use Rattle.lte_calc.specs.{declared.status.Status.Status, Output.longest_line, Output.output_of}
use Rattle.lte_calc.specs.declared.status.Status.TheVariants.{Done, Memory, BadWords, Refused, ReadFault, WriteFault, TooLong}
use Rattle.lte_calc.specs.Run.{IsLine, AreLines, BeginTooLong, Came, AllAnswered, RunAt, Run, RunIsComplete}
use Rattle.lte_calc.specs.Lines.{ends_of, all_good, AnsweredUpTo, StoppedAt, StoppedIn, LastAt}
use Rattle.lte_calc.proofs.Answering.{are_append, are_whole, no_output, text_append, ends_is, ends_too_long}

-- the lines so far were answered, and these octets were read behind them
pub record Midway (held : List ℕ) (good : Bool) (input input' out out' : Told) : Type 0 where
  pub lines : List (List ℕ)
  pub are : AreLines lines
  pub came : Came (ended lines ++ held) input input'
  pub status : good ≡ all_good lines
  pub grows : Grows out.written out'.written (output_of lines).text

pub midway_first : (held : List ℕ) (input out : Told) → held ≡ [] → Midway held true input input out out
unfolding ended
midway_first held input out none = record {
  lines = [];
  are = tt;
  came = subst (λ os. Came os input input) (sym none) (record { gives = gives_none input.left; most = omega arith });
  status = refl;
  grows = subst (λ o. Grows out.written out.written o.text) (sym no_output) (nothing_out out.written);
}

-- more octets come
came_on : (taken octets : List ℕ) (input mid now : Told) → Came taken input mid → Came octets mid now → Came (taken ++ octets) input now
came_on taken octets input mid now first second = record {
  gives = gives_twice input.left mid.left now.left taken octets first.gives second.gives;
  most = omega (arith, first.most, second.most, length-append taken octets);
}

pub came_more : (held octets after : List ℕ) (good : Bool) (input mid now out out' : Told)
    → Midway held good input mid out out'
    → Came octets mid now
    → after ≡ held ++ octets
    → Midway after good input now out out'
came_more held octets after good input mid now out out' m more is = record {
  lines = m.lines;
  are = m.are;
  came =
      subst (λ os. Came os input now)
      (append_assoc (ended m.lines) held octets ∙ ap (λ os. ended m.lines ++ os) (sym is))
      (came_on (ended m.lines ++ held) octets input mid now m.came more);
  status = m.status;
  grows = m.grows;
}

-- octets that are lines and a rest
joined : (first second : List (List ℕ)) (held rest : List ℕ) → held ≡ ended second ++ rest → ended first ++ held ≡ ended (first ++ second) ++ rest
joined first second held rest is =
    ap (λ os. ended first ++ os) is ∙ sym (append_assoc (ended first) (ended second) rest) ∙ ap (λ os. os ++ rest) (sym (ended_append first second))

-- the text of lines, and then of lines more
texts : (first second : List (List ℕ)) (old mid new : Option (List ℕ))
    → AreLines first
    → Grows old mid (output_of first).text
    → Grows mid new (output_of second).text
    → Grows old new (output_of (first ++ second)).text
texts first second old mid new are one two =
    subst (λ t. Grows old new t) (sym (text_append first second are)) (grows_twice old mid new (output_of first).text (output_of second).text one two)

-- the text of lines, of lines more, and then some octets
cut_texts : (first second : List (List ℕ)) (octets : List ℕ) (old mid new : Option (List ℕ))
    → AreLines first
    → Grows old mid (output_of first).text
    → Grows mid new ((output_of second).text ++ octets)
    → Grows old new ((output_of (first ++ second)).text ++ octets)
cut_texts first second octets old mid new are one two =
    subst (λ t. Grows old new t) (sym (append_assoc (output_of first).text (output_of second).text octets)
    ∙ ap (λ t. t ++ octets) (sym (text_append first second are)))
    (grows_twice old mid new (output_of first).text ((output_of second).text ++ octets) one two)

-- what is behind lines is no longer than all
behind : (lines : List (List ℕ)) (held rest : List ℕ) (n : ℕ) → held ≡ ended lines ++ rest → length held ≤ n → length rest ≤ n
behind lines held rest n is few = omega (arith, ap length is, length-append (ended lines) rest, few)

-- whole lines more are answered
pub answered_on : (held rest : List ℕ) (good good' : Bool) (input input' out mid now : Told)
    → Midway held good input input' out mid
    → AnsweredUpTo held rest good good' mid now
    → Midway rest good' input input' out now
answered_on held rest good good' input input' out mid now m a = record {
  lines = m.lines ++ a.lines;
  are = are_append m.lines a.lines m.are a.are;
  came = subst (λ os. Came os input input') (joined m.lines a.lines held rest a.is) m.came;
  status = a.status ∙ ap (λ g. g && all_good a.lines) m.status ∙ sym (list_all-append (λ l. (answer_to l).good) m.lines a.lines);
  grows = texts m.lines a.lines out.written mid.written now.written m.are m.grows a.grows;
}

-- the run ends
pub memory_run : (held : List ℕ) (good : Bool) (input input' out out' : Told)
    → Midway held good input input' out out'
    → length held ≤ longest_line + 4096
    → Run Memory input input' out out'
memory_run held good input input' out out' m few = record { lines = m.lines; rest = held; are = m.are; came = m.came; few = few; at = m.grows }

pub stopped_run : (status : Status) (held : List ℕ) (good : Bool) (input input' out mid now : Told)
    → Midway held good input input' out mid
    → length held ≤ longest_line + 4096
    → mid.write_faults ≡ out.write_faults
    → StoppedIn status held mid now
    → Run status input input' out now
stopped_run status held good input input' out mid now m few none s = record {
  lines = m.lines ++ s.lines;
  rest = s.rest;
  are = are_append m.lines s.lines m.are s.are;
  came = subst (λ os. Came os input input') (joined m.lines s.lines held s.rest s.is) m.came;
  few = behind s.lines held s.rest (longest_line + 4096) s.is few;
  at = at_status status s.lines s.rest s.at;
}
  where
    at_status : (status : Status) (lines : List (List ℕ)) (rest : List ℕ)
        → StoppedAt status lines rest mid now
        → RunAt status (m.lines ++ lines) rest input input' out now
    at_status Memory lines rest at = texts m.lines lines out.written mid.written now.written m.are m.grows at
    at_status TooLong lines rest at = (at.0, texts m.lines lines out.written mid.written now.written m.are m.grows at.1)
    at_status WriteFault lines rest at =
        let cut = at.1 in (
          omega (arith, at.0, none),
          record {
            line = cut.line;
            next = inl (cut.more, cut.next);
            is = cut.is;
            count = cut.count;
            short = cut.short;
            written = cut_texts m.lines lines (take cut.count (answer_to cut.line).text) out.written mid.written now.written m.are m.grows cut.written;
          },
        )
    at_status status lines rest at = absurd at

-- the end of the input
all_answered : (b : Bool) (held : List ℕ) (good : Bool) (input input' out mid now : Told)
    → Midway held good input input' out mid
    → IsLine held
    → HasEnded input'
    → (good && all_good (last_line held)) ≡ b
    → Grows mid.written now.written (output_of (last_line held)).text
    → (m : List (List ℕ))
    × AreLines m
    × Came (ended m ++ held) input input'
    × AllAnswered (ends_of b) m held input' out now
all_answered b held good input input' out mid now m short end is grows =
    let lines = m.lines ++ last_line held in
    let are = are_append m.lines (last_line held) m.are (are_last held short) in
    let good_is : all_good lines ≡ b = list_all-append (λ l. (answer_to l).good) m.lines (last_line held)
    ∙ ap (λ g. g && all_good (last_line held)) (sym m.status)
    ∙ is in (
      m.lines,
      m.are,
      m.came,
      record {
        end = end;
        last = short;
        status = ends_is lines are ∙ ap ends_of good_is;
        written = texts m.lines (last_line held) out.written mid.written now.written m.are m.grows grows;
      },
    )
  where
    are_last : (held : List ℕ) → IsLine held → AreLines (last_line held)
    are_last [] is = tt
    are_last (octet ∷ octets) is = (is, tt)

pub last_run : (status : Status) (held : List ℕ) (good : Bool) (input input' out mid now : Told)
    → Midway held good input input' out mid
    → mid.write_faults ≡ out.write_faults
    → IsLine held
    → HasEnded input'
    → LastAt status held good mid now
    → Run status input input' out now
last_run Done held good input input' out mid now m none short end last =
    let a = all_answered true held good input input' out mid now m short end last.0 last.1 in
    record { lines = a.0; rest = held; are = a.1; came = a.2; few = omega (arith, short.1); at = a.3 }
last_run Refused held good input input' out mid now m none short end last =
    let a = all_answered false held good input input' out mid now m short end last.0 last.1 in
    record { lines = a.0; rest = held; are = a.1; came = a.2; few = omega (arith, short.1); at = a.3 }
last_run Memory held good input input' out mid now m none short end last = record {
  lines = m.lines;
  rest = held;
  are = m.are;
  came = m.came;
  few = omega (arith, short.1);
  at =
      subst (λ t. Grows out.written now.written t) (append-nil (output_of m.lines).text)
      (grows_twice out.written mid.written now.written (output_of m.lines).text [] m.grows last);
}
last_run WriteFault held good input input' out mid now m none short end last = record {
  lines = m.lines;
  rest = held;
  are = m.are;
  came = m.came;
  few = omega (arith, short.1);
  at = (
    omega (arith, last.1, none),
    record {
      line = held;
      next = inr (refl, end.none_left);
      is = short;
      count = last.2.count;
      short = last.2.short;
      written = grows_twice out.written mid.written now.written (output_of m.lines).text (take last.2.count (answer_to held).text) m.grows last.2.grows;
    },
  );
}
last_run status held good input input' out mid now m none short end last = absurd last

-- what octets are, where an input tells them
known : (octets taken : List ℕ) (left : Option (List ℕ)) → Some octets ≡ prepend_known taken left → (xs : List ℕ) × (left ≡ Some xs) × (octets ≡ taken ++ xs)
known octets taken None e = cc
known octets taken (Some xs) e = let is : octets ≡ taken ++ xs = cc in (xs, refl, is)

at_end : (octets taken : List ℕ) (left : Option (List ℕ)) → Some octets ≡ prepend_known taken left → IsAtEnd left → octets ≡ taken
at_end octets taken None e end = cc
at_end octets taken (Some xs) e end = let is : octets ≡ taken ++ xs = cc in is ∙ ap (λ os. taken ++ os) end ∙ append-nil taken

-- the lines of an input that was read to its end
all_lines : (lines : List (List ℕ)) (rest octets : List ℕ)
    → AreLines lines
    → IsLine rest
    → octets ≡ ended lines ++ rest
    → lines_of octets ≡ lines ++ last_line rest
all_lines lines rest octets are last is =
    ap lines_of is ∙ lines_first lines rest (are_whole lines are) ∙ ap (λ ls. lines ++ ls) (lines_last rest last.0)

done : (status : Status) (lines : List (List ℕ)) (rest octets : List ℕ) (input input' out out' : Told)
    → AreLines lines
    → Came (ended lines ++ rest) input input'
    → input.left ≡ Some octets
    → AllAnswered status lines rest input' out out'
    → (status ≡ (output_of (lines_of octets)).ends) × Grows out.written out'.written (output_of (lines_of octets)).text
done status lines rest octets input input' out out' are came left all =
    let is = all_lines lines rest octets are all.last (at_end octets (ended lines ++ rest) input'.left (sym left ∙ came.gives) all.end.none_left) in
    subst (λ ls. (status ≡ (output_of ls).ends) × Grows out.written out'.written (output_of ls).text) (sym is) (sym all.status, all.written)

long : (lines : List (List ℕ)) (rest octets : List ℕ) (input input' out out' : Told)
    → AreLines lines
    → Came (ended lines ++ rest) input input'
    → input.left ≡ Some octets
    → BeginTooLong rest
    → Grows out.written out'.written (output_of lines).text
    → (TooLong ≡ (output_of (lines_of octets)).ends) × Grows out.written out'.written (output_of (lines_of octets)).text
long lines rest octets input input' out out' are came left begins grows =
    let k = known octets (ended lines ++ rest) input'.left (sym left ∙ came.gives) in
    let behind = rest ++ k.0 in
    let long_take : longest_line + 1 ≤ length rest = omega (arith, begins.0) in
    let no_feed : has_feed (take (suc longest_line) behind) ≡ false = ap has_feed (take-append-le (longest_line + 1) rest k.0 long_take) ∙ begins.1 in
    let first = long_first behind longest_line no_feed (omega (arith, begins.0, length-append rest k.0)) in
    let is : lines_of octets ≡ lines ++ (first.0 ∷ first.1) = ap lines_of (k.2 ∙ append_assoc (ended lines) rest k.0)
    ∙ lines_first lines behind (are_whole lines are)
    ∙ ap (λ ls. lines ++ ls) first.2 in
    let ends = ends_too_long lines first.0 first.1 are (omega (arith, first.3)) in
    subst (λ ls. (TooLong ≡ (output_of ls).ends) × Grows out.written out'.written (output_of ls).text) (sym is)
    (sym ends.0, subst (λ t. Grows out.written out'.written t) (sym ends.1) grows)

pub complete : (status : Status) (input input' out out' : Told) → Run status input input' out out' → RunIsComplete status input input' out out'
complete Done input input' out out' run = λ octets left read write. inl (done Done run.lines run.rest octets input input' out out' run.are run.came left run.at)
complete Refused input input' out out' run = λ octets left read write.
    inl (done Refused run.lines run.rest octets input input' out out' run.are run.came left run.at)
complete TooLong input input' out out' run = λ octets left read write.
    inl (long run.lines run.rest octets input input' out out' run.are run.came left run.at.0 run.at.1)
complete Memory input input' out out' run = λ octets left read write. inr refl
complete ReadFault input input' out out' run = λ octets left read write. absurd (read run.at.0)
complete WriteFault input input' out out' run = λ octets left read write. absurd (write run.at.0)
complete BadWords input input' out out' run = absurd run.at
