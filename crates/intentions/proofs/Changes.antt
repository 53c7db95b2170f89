-- An entry is read with its map, and the map is written with the entry changed.
use Rattle.std.proofs.Common.{◌≡◌, ⊎_elim, ℕ, Ok, Err, IsTrue, List, set, Some, sym, ◌∙◌, ap, subst, arith, Result, true, false}
use Rattle.intentions.proofs.Words.{ChangesBit, ChangesEntry, Course, Frame, Frames, Ghosts, HasStopped, HasTried, Holds, IfErr, Image, IsBadMap, IsCourse, IsGoodMap, IsMapOf, IsMapTrouble, IsOn, IsSettled, Keeps, Leaves, MakesAtMost, MapEntry, MayPut, Nothing, OnErr, OnOk, OnlyReads, Tells, Trouble, Written, both_ok, entry_in, false≢true, frames_hold, left_now, makes_then, map_of, map_with, reads_make, same_Some, stopped_after_reads, tells_on, then, trouble_had_tried, wider, with_entry}
use Rattle.cfs_base.specs.declared.refusal.Trouble.TheVariants as trouble
use Rattle.intentions.proofs.Courses.{carries_framed, entry_tried, entry_wrote, keeps_frame, keeps_settled, on_entry}

-- a stretch that leaves nothing new, with more room
pub nothing_more : {D : Type 0} (g : Ghosts D) (old new : D) (P : Image → Type 0) → Leaves g old new Nothing → Leaves g old new P
nothing_more g old new P images = wider g old new Nothing P images (λ c none. absurd none)

-- a write after a stretch that leaves nothing new
pub after_nothing : {D : Type 0} (g : Ghosts D) (old mid new : D) (n : ℕ) (block : List ℕ) → Leaves g old mid Nothing → Leaves g mid new (Written (left_now g mid) n block) → Leaves g old new (Written (left_now g old) n block)
after_nothing g old mid new n block first images =
    then g old mid new (Written (left_now g old) n block) (Written (left_now g mid) n block) (nothing_more g old mid (Written (left_now g old) n block) first) images
    (λ c w. (w.0, ⊎_elim (λ was. was) (λ none. absurd none) (first.now w.0 w.1), w.2))

-- an entry put where nothing waits
pub put_settled : {D : Type 0} (g : Ghosts D) (old flushed new : D) (n : ℕ) (e : MapEntry) → Leaves g old flushed Nothing → g.content flushed ≡ g.content old → IsSettled g flushed
    → Leaves g flushed new (Written (left_now g flushed) (map_of n) (map_with (g.content flushed) n e)) → Leaves g old new (λ c. c ≡ with_entry (g.content old) n e)
unfolding with_entry
put_settled g old flushed new n e first same settled images =
    let P = λ (c : Image). c ≡ with_entry (g.content old) n e in
    then g old flushed new P (Written (left_now g flushed) (map_of n) (map_with (g.content flushed) n e)) (nothing_more g old flushed P first) images
    (λ c w. w.2 ∙ ap (λ (i : Image). set i (map_of n) (map_with (g.content flushed) n e)) (settled.only w.0 w.1 ∙ same) ∙ ap (λ (i : Image). set (g.content old) (map_of n) (map_with i n e)) same)

-- why a call was refused, after reads
pub refused_after_reads : {D : Type 0} (g : Ghosts D) (old mid new : D) (most n : ℕ) (t : Trouble) → OnlyReads g most old mid → IsMapTrouble g mid new n t → IsMapTrouble g old new n t
refused_after_reads g old mid new most n (trouble.Disk tried) reads stop = stopped_after_reads g old mid new most tried reads stop
refused_after_reads g old mid new most n (trouble.Damaged damage) reads is = record {
  code = is.code;
  block = is.block;
  bad = λ tells. subst (λ (i : Image). IsBadMap i n) reads.content (is.bad (tells_on g old mid new most reads tells));
}

-- a premise of what is so once a call is done
pub ok_under : {A E P : Type 0} (Q : Type 0) (r : Result A E) → (P → OnOk r Q) → OnOk r (P → Q)
ok_under Q (Ok x) f = f
ok_under Q (Err e) f = tt

-- what reading gave of an entry, and what writing it changed then did
pub record Rewrites {D A : Type 0} (g : Ghosts D) (n : ℕ) (was now : MapEntry) (old read new : D) (result : Result A Trouble) : Type 0 where
  pub reads : OnlyReads g 1 old read
  pub here : Tells g old → entry_in (g.content old) n ≡ Some was
  pub whole : Tells g old → IsGoodMap (g.content old) n
  pub written : OnOk result (Tells g old → g.content new ≡ with_entry (g.content read) n now)
  pub told : OnOk result ((k : ℕ) → IsTrue (g.told read k) → IsTrue (g.told new k))
  pub images : Tells g old → Leaves g read new (Written (left_now g read) (map_of n) (map_with (g.content read) n now))
  pub refused : IfErr result (IsMapTrouble g old new n)
  pub by : IfErr result (λ t. t ≡ trouble.Disk true)
  pub tried : HasTried g read new
  pub calls : MakesAtMost g 1 1 read new

pub on_ok : {A E P Q : Type 0} (r : Result A E) → OnOk r P → (P → Q) → OnOk r Q
on_ok r p f = both_ok r p p (λ x y. f x)

pub all_ok : {A E P : Type 0} (r : Result A E) → P → OnOk r P
all_ok (Ok x) p = p
all_ok (Err e) p = tt

all_err : {A P : Type 0} (r : Result A Trouble) → P → IfErr r (λ t. t ≡ trouble.Disk true → P)
all_err (Ok x) p = tt
all_err (Err e) p = λ is. p

-- a refusal in which a write was tried
tried_err : {A : Type 0} (P : Type 0) (r : Result A Trouble) → IfErr r (λ t. t ≡ trouble.Disk true) → IfErr r (λ t. trouble_had_tried t ≡ false → P)
tried_err P (Ok x) by = tt
tried_err P (Err t) by = λ no. absurd (false≢true (sym no ∙ ap trouble_had_tried by))

pub rewrites : {D A : Type 0} (g : Ghosts D) (n : ℕ) (f : MapEntry → MapEntry) (was : MapEntry) (old read new : D) (result : Result A Trouble) → Rewrites g n was (f was) old read new result → ChangesEntry g n f old new result
rewrites g n f was old read new result is =
    let one = λ (tells : Tells g old) (e : MapEntry) (here : entry_in (g.content old) n ≡ Some e). ap f (same_Some _ _ (sym (is.here tells) ∙ here)) in
    let images = λ (tells : Tells g old) (e : MapEntry) (here : entry_in (g.content old) n ≡ Some e).
    subst (λ (x : MapEntry). Leaves g old new (Written (left_now g old) (map_of n) (map_with (g.content old) n x))) (one tells e here)
    (after_nothing g old read new (map_of n) (map_with (g.content old) n (f was)) is.reads.images
    (subst (λ (i : Image). Leaves g read new (Written (left_now g read) (map_of n) (map_with i n (f was)))) is.reads.content (is.images tells))) in
    let calls = makes_then g old read new 1 1 2 0 1 1 (reads_make g old read 1 is.reads) is.calls (omega arith) (omega arith) in
    let told = on_ok result is.told (λ told k stood. told k (is.reads.told k stood)) in
    let put = on_ok result is.written (λ wrote tells e here. wrote tells ∙ ap (λ (i : Image). with_entry i n (f was)) is.reads.content ∙ ap (with_entry (g.content old) n) (one tells e here)) in
    let keeps : (w : Course) (e : MapEntry) → IsCourse w → Keeps g w old → entry_in (g.content old) n ≡ Some e → MayPut w n e (f e) → OnOk result (Keeps g w new) = λ w e fit run here may.
    both_ok result put told (λ wrote still. entry_wrote g w fit old new n e (f e) run here may (images run.tells e here) calls.same (wrote run.tells e here) still) in
    let leaves : (w : Course) (e : MapEntry) → IsCourse w → Keeps g w old → entry_in (g.content old) n ≡ Some e → MayPut w n e (f e) → Leaves g old new (IsOn w) = λ w e fit run here may.
    entry_tried g w fit old new n e (f e) run here may (images run.tells e here) in
    record {
      put = put;
      told = told;
      tried = all_ok result (omega (arith, is.tried, is.reads.tries));
      images = images;
      keeps = keeps;
      leaves = leaves;
      carries = λ graph e run here may. on_ok result (keeps (Frame (g.content old) graph) e run.holds (keeps_frame g graph old run) here may) (carries_framed g (g.content old) graph new run.holds);
      holds = λ graph e run here may. wider g old new (Frames (g.content old) graph) (λ c. Holds c graph) (leaves (Frame (g.content old) graph) e run.holds (keeps_frame g graph old run) here may)
          (λ c on. frames_hold (g.content old) c graph run.holds on);
      refused = is.refused;
      unless_tried = tried_err (OnlyReads g 1 old new) result is.by;
      whole = all_ok result is.whole;
      whole_tried = all_err result is.whole;
      calls = calls;
    }

-- the same of a commit bit, which is put between two barriers
pub rewrites_bit : {D : Type 0} (g : Ghosts D) (n : ℕ) (f : MapEntry → MapEntry) (was : MapEntry) (map : List MapEntry) (old read new : D) (result : Result (Unit {0}) Trouble) → OnlyReads g 1 old read
    → (Tells g old → entry_in (g.content old) n ≡ Some was) → (Tells g old → IsMapOf (g.content old) n map) → (Tells g old → IsGoodMap (g.content old) n)
    → (IsMapOf (g.content read) n map → OnOk result (g.content new ≡ with_entry (g.content read) n (f was))) → OnOk result ((k : ℕ) → IsTrue (g.told read k) → IsTrue (g.told new k)) → (Tells g read → OnOk result (IsSettled g new))
    → (Tells g read → IsMapOf (g.content read) n map → Leaves g read new (λ c. c ≡ with_entry (g.content read) n (f was)))
    → IfErr result (λ t. t ≡ trouble.Disk true) → OnErr result (HasStopped g true read new) → HasTried g read new → MakesAtMost g 3 3 read new → ChangesBit g n f old new result
rewrites_bit g n f was map old read new result reads here is_map whole written told settled images by stopped made calls =
    let one = λ (tells : Tells g old) (e : MapEntry) (at : entry_in (g.content old) n ≡ Some e). ap f (same_Some _ _ (sym (here tells) ∙ at)) in
    let on = λ (tells : Tells g old). tells_on g old read new 1 reads tells in
    let spelled = λ (tells : Tells g old). subst (λ (i : Image). IsMapOf i n map) (sym reads.content) (is_map tells) in
    let put : OnOk result (Tells g old → (e : MapEntry) → entry_in (g.content old) n ≡ Some e → g.content new ≡ with_entry (g.content old) n (f e)) =
    ok_under _ result (λ tells. on_ok result (written (spelled tells)) (λ wrote e at. wrote ∙ ap (λ (i : Image). with_entry i n (f was)) reads.content ∙ ap (with_entry (g.content old) n) (one tells e at))) in
    let settled_new : OnOk result (Tells g old → IsSettled g new) = ok_under _ result (λ tells. settled (on tells)) in
    let left : Tells g old → (e : MapEntry) → entry_in (g.content old) n ≡ Some e → Leaves g old new (λ c. c ≡ with_entry (g.content old) n (f e)) = λ tells e at.
    subst (λ (x : MapEntry). Leaves g old new (λ c. c ≡ with_entry (g.content old) n x)) (one tells e at)
    (then g old read new _ _ (nothing_more g old read (λ c. c ≡ with_entry (g.content old) n (f was)) reads.images)
    (subst (λ (i : Image). Leaves g read new (λ c. c ≡ with_entry i n (f was))) reads.content (images (on tells) (spelled tells))) (λ c p. p)) in
    record {
      put = put;
      told = on_ok result told (λ on k was. on k (reads.told k was));
      settled = settled_new;
      tried = all_ok result (omega (arith, made, reads.tries));
      images = left;
      keeps = λ w e fit run at may. both_ok result put settled_new (λ wrote settled. keeps_settled g w new (settled run.tells) (subst (IsOn w) (sym (wrote run.tells e at)) (on_entry w (g.content old) n e (f e) fit run.content at may)));
      leaves = λ w e fit run at may. wider g old new (λ c. c ≡ with_entry (g.content old) n (f e)) (IsOn w) (left run.tells e at)
          (λ c is. subst (IsOn w) (sym is) (on_entry w (g.content old) n e (f e) fit run.content at may));
      refused = stopped_bit result by stopped;
      unless_tried = tried_err (OnlyReads g 1 old new) result by;
      whole = all_ok result whole;
      whole_tried = all_err result whole;
      calls = makes_then g old read new 1 3 4 0 3 3 (reads_make g old read 1 reads) calls (omega arith) (omega arith);
    }
  where
    stopped_bit : (r : Result (Unit {0}) Trouble) → IfErr r (λ t. t ≡ trouble.Disk true) → OnErr r (HasStopped g true read new) → IfErr r (IsMapTrouble g old new n)
    stopped_bit (Ok x) by stop = tt
    stopped_bit (Err t) by stop = subst (IsMapTrouble g old new n) (sym by) (stopped_after_reads g old read new 1 true reads stop)
