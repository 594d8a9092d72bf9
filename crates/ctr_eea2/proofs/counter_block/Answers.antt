use Rattle.std.proofs.Common.{◌≡◌, ℕ, List, ◌++◌, length, refl, ◌∙◌, arith, append-nil}
use Rattle.std.proofs.lemmas.List.{drop_all, drop_at, take_at}
use borrow.Rule.Slice.PartMut.{put_mid}
use Rattle.rec_base.proofs.Numbers.{octets_of-is}
use Rattle.ctr_eea2.proofs.counter_block.Goals as goal

put_mid-back : (k m : ℕ) (front old new : List ℕ) → length front ≡ k → length old ≡ m
    → put_mid k m (front ++ old) new ≡ front ++ new
put_mid-back k m front old new f o =
    rw (take_at front old k f, drop_at front old k f, drop_all m old (omega arith), append-nil) refl

pub returns : goal.returns
returns c =
    put_mid-back 8 8 c.copy_from_slice.new.self _ c.copy_from_slice-2.new.self c.copy_from_slice.ensures.len refl
    ∙ rw (c.copy_from_slice.ensures.after, c.copy_from_slice-2.ensures.after, c.to_be_bytes.ensures, octets_of-is) refl
