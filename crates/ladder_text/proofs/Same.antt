-- Lines that are the same.
use Rattle.std.proofs.Common.{◌≡◌, ℕ, ◌==◌, ◌&&◌, ◌||◌, Bool, true, false, cond, Option, Some, None, is_some, List, [], ◌∷◌, ◌++◌, map, sym, ap, subst, refl, ◌∙◌, arith}
use Rattle.std.proofs.{lemmas.Bool.false≢true, lemmas.Bool.and_parts, lemmas.Bool.Decides.Decides-eqb, lemmas.Slice.Eq.bytes_eq-Decides, lemmas.Cmp.nat_eq_equiv, lemmas.Cmp.nat_list_eq_equiv, lemmas.List.map-append}
use Rattle.std.specs.{List.list_any, Map.lookup}
use Rattle.indexmap.specs.IndexMap.{IndexMap, get, get_by, insert_entry}
use Rattle.indexmap.proofs.CallerLemmas.{insert_entry-new}
use Rattle.annex_a_keys.specs.{AlgType.distinguisher, declared.alg_type.AlgType.AlgType}
use Rattle.annex_a_keys.specs.declared.alg_type.AlgType.TheVariants.{NasEnc, NasInt, RrcEnc, RrcInt, UpEnc}
use Rattle.key_terms.specs.Ladder.{row}
use Rattle.ladder_text.specs.{declared.line.LadderLine.LadderLine, Text.same, Text.with_row, Key.line_key, Key.AreKeyed, declared.key.LineKey.LineKey, contracts.key.LineKeyPartialEq.TheImpl.eq-value}
use Rattle.ladder_text.specs.declared.line.LadderLine.TheVariants.{Root, Kenb, Nh, Star, Alg}

-- two types with one distinguisher are one
one_type : (a b : AlgType) → distinguisher a ≡ distinguisher b → a ≡ b
one_type NasEnc NasEnc e = refl
one_type NasInt NasInt e = refl
one_type RrcEnc RrcEnc e = refl
one_type RrcInt RrcInt e = refl
one_type UpEnc UpEnc e = refl
one_type a b e = absurd (omega (arith, e))

-- two lines that test as the same are one
pub same_line : (a b : LadderLine) → same a b ≡ true → a ≡ b
same_line (Root key) (Root key') h = ap Root ((bytes_eq-Decides key key').0 h)
same_line (Kenb root count) (Kenb root' count') h =
    let parts = and_parts (root.0 == root'.0) (count == count') h in
    let one_root : root ≡ root' = ap row ((Decides-eqb root.0 root'.0).0 parts.0) in
    let one_count : count ≡ count' = (Decides-eqb count count').0 parts.1 in
    cc
same_line (Nh root sync) (Nh root' sync') h =
    let parts = and_parts (root.0 == root'.0) (sync.0 == sync'.0) h in
    let one_root : root ≡ root' = ap row ((Decides-eqb root.0 root'.0).0 parts.0) in
    let one_sync : sync ≡ sync' = ap row ((Decides-eqb sync.0 sync'.0).0 parts.1) in
    cc
same_line (Star key cell) (Star key' cell') h =
    let parts = and_parts (key.0 == key'.0) (cell.pci == cell'.pci && cell.earfcn == cell'.earfcn) h in
    let places = and_parts (cell.pci == cell'.pci) (cell.earfcn == cell'.earfcn) parts.1 in
    let one_key : key ≡ key' = ap row ((Decides-eqb key.0 key'.0).0 parts.0) in
    let one_cell : cell ≡ cell' =
    ap (λ (p : ℕ). record { pci = p; earfcn = cell.earfcn }) ((Decides-eqb cell.pci cell'.pci).0 places.0)
    ∙ ap (λ (e : ℕ). record { pci = cell'.pci; earfcn = e }) ((Decides-eqb cell.earfcn cell'.earfcn).0 places.1) in
    cc
same_line (Alg key type id) (Alg key' type' id') h =
    let parts = and_parts (key.0 == key'.0) (distinguisher type == distinguisher type' && id == id') h in
    let rest = and_parts (distinguisher type == distinguisher type') (id == id') parts.1 in
    let one_key : key ≡ key' = ap row ((Decides-eqb key.0 key'.0).0 parts.0) in
    let one_kind : type ≡ type' = one_type type type' ((Decides-eqb (distinguisher type) (distinguisher type')).0 rest.0) in
    let one_id : id ≡ id' = (Decides-eqb id id').0 rest.1 in
    cc
same_line a b h = absurd (false≢true h)

-- two lines are the same exactly where their keys are equal
pub same_key : (a b : LadderLine) → eq-value.it (line_key b) (line_key a) ≡ same a b
same_key (Root key) (Root key') = nat_list_eq_equiv.symm key' key
same_key (Kenb root count) (Kenb root' count') = λ i. nat_eq_equiv.symm root'.0 root.0 i && nat_eq_equiv.symm count' count i
same_key (Nh root sync) (Nh root' sync') = λ i. nat_eq_equiv.symm root'.0 root.0 i && nat_eq_equiv.symm sync'.0 sync.0 i
same_key (Star key cell) (Star key' cell') = λ i.
    nat_eq_equiv.symm key'.0 key.0 i
    && (nat_eq_equiv.symm cell'.pci cell.pci i && nat_eq_equiv.symm cell'.earfcn cell.earfcn i)
same_key (Alg key type id) (Alg key' type' id') = λ i.
    nat_eq_equiv.symm key'.0 key.0 i
    && (nat_eq_equiv.symm (distinguisher type') (distinguisher type) i && nat_eq_equiv.symm id' id i)
same_key a b = refl

either : {X : Type 0} (b : Bool) (x : X) (o : Option X) → is_some (cond b (Some x) o) ≡ (b || is_some o)
either true x o = refl
either false x o = refl

-- a line is found by its key exactly where the same stands
pub found_by_key : (entries : List (LineKey × LadderLine)) (line : LadderLine)
    → AreKeyed entries
    → is_some (lookup (eq-value.it (line_key line)) entries)
    ≡ list_any (λ earlier. same earlier line) (map (λ e. e.1) entries)
found_by_key [] line keyed = refl
found_by_key (e ∷ entries) line keyed =
    let here : eq-value.it (line_key line) e.0 ≡ same e.1 line = ap (eq-value.it (line_key line)) keyed.0 ∙ same_key e.1 line in
    either (eq-value.it (line_key line) e.0) e.1 (lookup (eq-value.it (line_key line)) entries) ∙ (λ i. here i || found_by_key entries line keyed.1 i)

-- what the index answers for a line is whether the same stands
pub answer_is : (entries : List (LineKey × LadderLine)) (rows : List LadderLine) (line : LadderLine)
    (key : LineKey) (answer : Bool)
    → AreKeyed entries
    → map (λ e. e.1) entries ≡ rows
    → key ≡ line_key line
    → answer ≡ is_some (lookup (eq-value.it key) entries) → answer ≡ list_any (λ earlier. same earlier line) rows
answer_is entries rows line key answer keyed view at found =
    found ∙ ap (λ k. is_some (lookup (eq-value.it k) entries)) at ∙ found_by_key entries line keyed ∙ ap (list_any (λ earlier. same earlier line)) view

-- the rows after a line, by what the index answered
pub rows_after_answer : (rows : List LadderLine) (line : LadderLine) (answer : Bool)
    → answer ≡ list_any (λ earlier. same earlier line) rows
    → with_row rows line ≡ cond answer rows (rows ++ line ∷ [])
rows_after_answer rows line answer found = ap (λ t. cond t rows (rows ++ line ∷ [])) (sym found)

none_there : {X : Type 0} (o : Option X) → is_some o ≡ false → o ≡ None
none_there None h = refl
none_there (Some x) h = absurd (false≢true (sym h))

-- a line whose key is new goes to the end, under its key
keyed_push : (entries : List (LineKey × LadderLine)) (line : LadderLine) → AreKeyed entries → AreKeyed (entries ++ (line_key line, line) ∷ [])
keyed_push [] line keyed = (refl, tt)
keyed_push (e ∷ entries) line keyed = (keyed.0, keyed_push entries line keyed.1)

pub one_more : {S : Type 0} (lines : IndexMap LineKey LadderLine S) (after : List (LineKey × LadderLine))
    (line : LadderLine) (key : LineKey)
    → AreKeyed lines.entries
    → key ≡ line_key line
    → is_some (get_by (eq-value.it key) lines) ≡ false
    → after ≡ insert_entry eq-value.it lines.entries key line → AreKeyed after × (map (λ e. e.1) after ≡ map (λ e. e.1) lines.entries ++ line ∷ [])
one_more lines after line key keyed at absent put =
    let none : get eq-value.it lines key ≡ None = none_there (get eq-value.it lines key) absent in
    let end : after ≡ lines.entries ++ (line_key line, line) ∷ [] =
    put ∙ insert_entry-new eq-value.it lines key line none ∙ ap (λ k. lines.entries ++ (k, line) ∷ []) at in
    (subst AreKeyed (sym end) (keyed_push lines.entries line keyed), ap (map (λ e. e.1)) end ∙ map-append (λ e. e.1) lines.entries ((line_key line, line) ∷ []))
