-- The lines of a report, one after the other.
use Rattle.std.proofs.Common.{◌≡◌, refl, sym, ap, subst, ◌∙◌, ℕ, ◌+◌, ◌≤◌, ◌<◌, Bool, true, false, if◌then◌else◌, Option, Ok, Err, List, [], ◌∷◌, length, drop, get_or, arith}
use Rattle.std.specs.{Prelude.IsTrue, List.filter, List.flat_map, Option.is_some}
use Rattle.std.proofs.lemmas.List.{drop_more}
use Rattle.edge_io.specs.Told.{Told}
use Rattle.item_faults.specs.{declared.changes.Fault.Fault, declared.messages.Message.Message, declared.steps.Step.Step}
use Rattle.item_outcomes.specs.Outcomes.{Verdict}
use Rattle.run_report.specs.{Written.WritesText, declared.unwritten.Unwritten.Unwritten}
use Rattle.run_report.proofs.Partly.{Begins, Partly, all_written, cut_written, last_cut, last_written, more_written, none_written}
use Rattle.variant_runs.specs.{Judged.judged, Original.Original}
use Rattle.lte_variants.specs.Report.{is_variant, line_at, line_of, line_told, line_with, message_at, messages_asked, report_of, report_with, variant_lines, variants}
use Rattle.lte_variants.specs.declared.request.Request.{Request}

-- A TEXT, whatever its writer answers

pub all_of_it : {A B : Type 0} {done : A} {more : B} {text : List ℕ} {first now : Told}
    → IsTrue first.ready
    → WritesText text (Ok done) first now
    → WritesText text (Ok more) first now
all_of_it {text} {first} ready w = last_written (none_written text first ready) w

pub cut_of_it : {A B : Type 0} {fault : Unwritten} {text : List ℕ} {first now : Told}
    → IsTrue first.ready
    → WritesText {A = A} text (Err fault) first now
    → WritesText {A = B} text (Err fault) first now
cut_of_it {text} {first} ready w = last_cut (none_written text first ready) w

pub none_of_it : {A : Type 0} {done : A} {first : Told} → IsTrue first.ready → WritesText [] (Ok done) first first
none_of_it {first = first} ready = all_written (none_written [] first ready) refl

-- A MESSAGE

pub line_is : (steps : List Step) (number : ℕ) (told : Option Message) → told ≡ message_at steps number → line_with number told ≡ line_at steps number
unfolding line_at
line_is steps number told is = ap (line_with number) is

pub each_more : {A : Type 0} (f : A → List ℕ) (xs : List A) (i : ℕ) (d : A) → i < length xs
    → Begins (flat_map f (drop i xs)) (f (get_or xs i d)) (flat_map f (drop (i + 1) xs))
each_more f xs i d within = record { is = ap (flat_map f) (drop_more xs i d within) }

-- A VARIANT

pub told_line : (sent : Bool) (o : Original) (faults : List Fault) (told : Option Verdict) → told ≡ judged o faults
    → line_told sent faults told ≡ line_of sent o faults
unfolding line_of
told_line sent o faults told is = ap (line_told sent faults) is

pub told_so : (o : Original) (faults : List Fault) (told : Option Verdict) → told ≡ judged o faults → is_some told ≡ is_variant o faults
unfolding is_variant
told_so o faults told is = ap is_some is

-- THE VARIANTS OF A LIST OF CHOICES

pub one_more : (sent : Bool) (o : Original) (all left : List (List Fault)) (choice faults : List Fault) (rest : List (List Fault)) (told : Bool)
    {first mid now : Told}
    → Partly (variant_lines sent o all) (variant_lines sent o left) first mid
    → left ≡ choice ∷ rest
    → faults ≡ choice
    → WritesText (line_of sent o faults) (Ok told) mid now
    → Partly (variant_lines sent o all) (variant_lines sent o rest) first now
one_more sent o all left choice faults rest told {mid = mid} {now = now} so_far is same w =
    more_written so_far (record { is = ap (variant_lines sent o) is })
    (subst (λ f. WritesText (line_of sent o f) (Ok told) mid now) same w)

pub one_cut : (sent : Bool) (o : Original) (all left : List (List Fault)) (choice faults : List Fault) (rest : List (List Fault)) {fault : Unwritten}
    {first mid now : Told}
    → Partly (variant_lines sent o all) (variant_lines sent o left) first mid
    → left ≡ choice ∷ rest
    → faults ≡ choice
    → WritesText {A = Bool} (line_of sent o faults) (Err fault) mid now
    → WritesText {A = ℕ} (variant_lines sent o all) (Err fault) first now
one_cut sent o all left choice faults rest {fault} {mid = mid} {now = now} so_far is same w =
    cut_written so_far (record { is = ap (variant_lines sent o) is })
    (subst (λ f. WritesText {A = Bool} (line_of sent o f) (Err fault) mid now) same w)

counted : (b : Bool) (x : List Fault) (xs : List (List Fault)) → length (if b then x ∷ xs else xs) ≡ (if b then 1 else 0) + length xs
counted true x xs = omega arith
counted false x xs = omega arith

pub count_more : (o : Original) (left rest : List (List Fault)) (choice faults : List Fault) (count next all : ℕ) (told : Bool)
    → count + variants o left ≡ all
    → left ≡ choice ∷ rest
    → faults ≡ choice
    → told ≡ is_variant o faults
    → next ≡ count + (if told then 1 else 0)
    → next + variants o rest ≡ all
count_more o left rest choice faults count next all told sum is same so add =
    let one : variants o left ≡ (if told then 1 else 0) + variants o rest =
    ap (variants o) is
    ∙ counted (is_variant o choice) choice (filter (is_variant o) rest)
    ∙ ap (λ b. (if b then 1 else 0) + variants o rest) (ap (is_variant o) (sym same) ∙ sym so) in
    omega (arith, sum, one, add)

pub few_more : (left rest : List (List Fault)) (choice : List Fault) (count next most : ℕ) (told : Bool)
    → count + length left ≤ most
    → left ≡ choice ∷ rest
    → next ≡ count + (if told then 1 else 0)
    → next + length rest ≤ most
few_more left rest choice count next most true few is add = let one = ap length is in omega (arith, few, one, add)
few_more left rest choice count next most false few is add = let one = ap length is in omega (arith, few, one, add)

-- THE REPORT

pub report_is : (r : Request) (o : Original) (messages : List ℕ) → messages ≡ messages_asked r o.steps → report_with r o messages ≡ report_of r o
unfolding report_of
report_is r o messages is = ap (report_with r o) is
