-- Acts that follow others.
use Rattle.std.proofs.Common.{◌≡◌, ℕ, Option, Some, None, List, [], ◌∷◌, ◌++◌, Result, Ok, Err, IfSome, refl, ap, sym, subst, ◌∙◌, append_assoc, append-nil}
use Rattle.std.specs.Option.{option_map}
use Rattle.edge_io.proofs.Known.{grows_twice, nothing_out}
use Rattle.edge_io.specs.{Octets.Grows, Peers.PeersTold}
use Rattle.hub_drive.specs.declared.faults.DriveFault.{DriveFault}
use Rattle.hub_drive.specs.Acts.{Call, Act, Writing, Calling, calls, writes}
use Rattle.hub_drive.specs.Outside.{Outside, done, all_done, AllGave, Did, AllDone}
use Rattle.hub_drive.specs.Went.{ActFails, CutAt, Went}

pub calls-append : (a b : List Act) → calls (a ++ b) ≡ calls a ++ calls b
calls-append [] b = refl
calls-append (Writing text ∷ a) b = calls-append a b
calls-append (Calling call ∷ a) b = ap (λ (cs : List Call). call ∷ cs) (calls-append a b)

pub writes-append : (a b : List Act) → writes (a ++ b) ≡ writes a ++ writes b
writes-append [] b = refl
writes-append (Writing text ∷ a) b =
    ap (λ (octets : List ℕ). text ++ octets) (writes-append a b) ∙ sym (append_assoc text (writes a) (writes b))
writes-append (Calling call ∷ a) b = writes-append a b

pub all_done-append : (a b : List Call) (told : PeersTold) → all_done (a ++ b) told ≡ all_done b (all_done a told)
all_done-append [] b told = refl
all_done-append (call ∷ a) b told = all_done-append a b (done call told)

all_gave-append : (a b : List Call) (told : PeersTold) → AllGave a told → AllGave b (all_done a told) → AllGave (a ++ b) told
all_gave-append [] b told first second = second
all_gave-append (call ∷ a) b told first second = (first.0, all_gave-append a b (done call told) first.1 second)

-- no call was made
pub did_none : (told : Option PeersTold) → Did [] told told
did_none None = record { told = refl; gave = tt }
did_none (Some t) = record { told = refl; gave = tt }

-- calls were made, and then others
pub did_twice : (a b : List Call) (x y z : Option PeersTold) → Did a x y → Did b y z → Did (a ++ b) x z
did_twice a b None y z first second = record {
  told = second.told ∙ ap (λ (t : Option PeersTold). option_map (all_done b) t) first.told;
  gave = tt;
}
did_twice a b (Some t) y z first second =
    let there : y ≡ Some (all_done a t) = first.told in
    let P : Option PeersTold → Type 0 = λ told. IfSome told (AllGave b) in
    record {
      told = second.told ∙ ap (λ (told : Option PeersTold). option_map (all_done b) told) there ∙ ap Some (sym (all_done-append a b t));
      gave = all_gave-append a b t first.gave (subst P there second.gave);
    }

-- nothing was done
pub none_done : (x : Outside) → AllDone [] x x
none_done x = record { written = nothing_out x.written; did = did_none x.peers }

-- acts were done, and then others
pub done_twice : (a b : List Act) (x y z : Outside) → AllDone a x y → AllDone b y z → AllDone (a ++ b) x z
done_twice a b x y z first second =
    let P : List ℕ → Type 0 = λ octets. Grows x.written z.written octets in
    let Q : List Call → Type 0 = λ made. Did made x.peers z.peers in
    record {
      written = subst P (sym (writes-append a b)) (grows_twice x.written y.written z.written (writes a) (writes b) first.written second.written);
      did = subst Q (sym (calls-append a b)) (did_twice (calls a) (calls b) x.peers y.peers z.peers first.did second.did);
    }

-- acts were done, and others cut
pub cut_after : (a b : List Act) (fault : DriveFault) (x y z : Outside) → AllDone a x y → CutAt b fault y z → CutAt (a ++ b) fault x z
cut_after a b fault x y z first second = record {
  made = a ++ second.made;
  next = second.next;
  more = second.more;
  is = ap (λ (acts : List Act). a ++ acts) second.is ∙ sym (append_assoc a second.made (second.next ∷ second.more));
  between = second.between;
  did = done_twice a second.made x y second.between first second.did;
  fails = second.fails;
}

-- acts were cut, with others behind them
pub cut_before : (a b : List Act) (fault : DriveFault) (x y : Outside) → CutAt a fault x y → CutAt (a ++ b) fault x y
cut_before a b fault x y cut = record {
  made = cut.made;
  next = cut.next;
  more = cut.more ++ b;
  is = ap (λ (acts : List Act). acts ++ b) cut.is ∙ append_assoc cut.made (cut.next ∷ cut.more) b;
  between = cut.between;
  did = cut.did;
  fails = cut.fails;
}

-- acts were done, and how far others went
pub went_on : {A : Type 0} (a b : List Act) (result : Result A DriveFault) (x y z : Outside) → AllDone a x y → Went b result y z → Went (a ++ b) result x z
went_on a b (Ok _) x y z first second = done_twice a b x y z first second
went_on a b (Err fault) x y z first second = cut_after a b fault x y z first second

-- one act was cut at its beginning
pub cut_at : (act : Act) (fault : DriveFault) (x y : Outside) → ActFails act fault x y → CutAt (act ∷ []) fault x y
cut_at act fault x y fails = record {
  made = [];
  next = act;
  more = [];
  is = refl;
  between = x;
  did = none_done x;
  fails = fails;
}

-- SOME IS DONE, AND THIS IS TO DO

pub record Going (whole rest : List Act) (first now : Outside) : Type 0 where
  pub made : List Act
  pub is : whole ≡ made ++ rest
  pub did : AllDone made first now

-- a part of what is to do was done
pub going_on : (whole left part rest : List Act) (o x y : Outside) → Going whole left o x → left ≡ part ++ rest → AllDone part x y → Going whole rest o y
going_on whole left part rest o x y so_far parts more = record {
  made = so_far.made ++ part;
  is = so_far.is ∙ ap (λ (acts : List Act). so_far.made ++ acts) parts ∙ sym (append_assoc so_far.made part rest);
  did = done_twice so_far.made part o x y so_far.did more;
}

-- it was cut
pub going_cut : (whole left part rest : List Act) (fault : DriveFault) (o x y : Outside)
    → Going whole left o x
    → left ≡ part ++ rest
    → CutAt part fault x y
    → CutAt whole fault o y
going_cut whole left part rest fault o x y so_far parts cut =
    let P : List Act → Type 0 = λ acts. CutAt acts fault o y in
    subst P (sym (so_far.is ∙ ap (λ (acts : List Act). so_far.made ++ acts) parts))
    (cut_after so_far.made (part ++ rest) fault o x y so_far.did (cut_before part rest fault x y cut))

-- nothing is left to do
pub going_done : (whole : List Act) (o x : Outside) → Going whole [] o x → AllDone whole o x
going_done whole o x so_far =
    let P : List Act → Type 0 = λ acts. AllDone acts o x in
    subst P (sym (so_far.is ∙ append-nil so_far.made)) so_far.did

-- and it is known that nothing is
pub going_ended : (whole rest : List Act) (o x : Outside) → rest ≡ [] → Going whole rest o x → AllDone whole o x
going_ended whole rest o x none so_far =
    let P : List Act → Type 0 = λ acts. Going whole acts o x in
    going_done whole o x (subst P none so_far)
