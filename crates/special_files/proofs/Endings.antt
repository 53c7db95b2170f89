-- How calls end that are made one after another.
use Rattle.std.proofs.Common.{◌≡◌, ◌⊎◌, inl, inr, ℕ, ◌+◌, ◌≤◌, true, false, IsTrue, Ok, Err, List, refl, sym, ◌∙◌, ap, subst, arith, ◌<◌, Bool, ◌≢◌}
use Rattle.special_files.proofs.Words.{BlockNo, Claims, Drafting, EndsCall, Enters, GetsDraftNode, Ghosts, Had, HasTried, IfErr, Image, IsBadMap, IsDraftDamage, IsFindRefusal, IsMiscounted, IsDraftRefusal, IsDraftTrouble, Kept, MakesAtMost, MapEntry, Need, NoMap, OnlyReads, OtherCount, Refused, Result, StaysBut, Tells, still_top, Top, Trouble, WritesDraftBlock, after_try, had_tried, has_met_damage, is_fresh_node, is_full_refusal, miscounted_as, one_unless, reads_within, still_tells, stopped_after_try, sum, refusal_after, top_of, trouble_after_try}
use Rattle.cfs_base.proofs.Went.{makes_none, told_as, went_as, went_then}
use Rattle.cfs_base.specs.declared.refusal.Refused.TheVariants as refusals
use Rattle.cfs_base.specs.declared.refusal.Trouble.TheVariants as trouble
use Rattle.cyl_alloc.proofs.Takes.{enters_went, takes_none, takes_then, takes_within}
use Rattle.special_files.proofs.Refusals.{damage_since, refusal_as}

-- ---- after a call that tried something

module _ {D : Type 0} (g : Ghosts D) (at : Top) (floor : ℕ) (d0 d1 d2 : D) (kept : Kept) (n t : ℕ) (calls : MakesAtMost g n t d0 d1) (tried : HasTried g d0 d1) (told : (b : ℕ) → IsTrue (g.told d0 b) → IsTrue (g.told d1 b)) where
  on : Tells g d0 → Tells g d1
  on tells = still_tells g tells told calls.same

  pub refused_after_try : (e : Refused) → IsDraftRefusal g at floor d1 d2 kept e → IsDraftRefusal g at floor d0 d2 kept (after_try e)
  refused_after_try (refusals.Full need) is = is
  refused_after_try (refusals.Disk was) is = stopped_after_try g d0 d1 d2 n t was calls tried is
  refused_after_try (refusals.Damaged damage) is = damage_since g at d0 d1 d2 kept damage on is
  refused_after_try refusals.Memory is = is

  pub trouble_after_tried : (e : Trouble) → IsDraftTrouble g at d1 d2 kept e → IsDraftTrouble g at d0 d2 kept (trouble_after_try e)
  trouble_after_tried (trouble.Disk was) is = stopped_after_try g d0 d1 d2 n t was calls tried is
  trouble_after_tried (trouble.Damaged damage) is = damage_since g at d0 d1 d2 kept damage on is

pub not_untried : (e : Refused) → after_try e ≡ refusals.Disk false → ⊥
not_untried (refusals.Full need) same = cc
not_untried (refusals.Disk was) same = cc
not_untried (refusals.Damaged damage) same = cc
not_untried refusals.Memory same = cc

-- A call that is done, and one after it. Where the second is refused the first had tried something, so the refusal is
-- told as one after that.
module _ {D A B : Type 0} {g : Ghosts D} {at : Top} {d0 d1 d2 : D} {k0 k1 k2 : Kept} {x : A} {n t k m s j : ℕ} (most tries blocks : ℕ) where
  pub ends_then : {result : Result B Refused} → EndsCall g at 0 n t k d0 d1 k0 k1 (Ok x) → EndsCall g at 0 m s j d1 d2 k1 k2 result → IfErr result (λ e. HasTried g d0 d1) → n + m ≤ most → t + s ≤ tries → k + j ≤ blocks
      → EndsCall g at 0 most tries blocks d0 d2 k0 k2 (told_as after_try result)
  ends_then {result} first then tried calls lt lk = went_as most tries most (takes_within lk) (λ e why. why) (λ e so. so) (λ y is. is) (by result tried then) calls lt calls
    where
      by : (r : Result B Refused) → IfErr r (λ e. HasTried g d0 d1) → EndsCall g at 0 m s j d1 d2 k1 k2 r → EndsCall g at 0 (n + m) (t + s) (k + j) d0 d2 k0 k2 (told_as after_try r)
      by (Ok y) tried then = went_then after_try (takes_then (omega arith)) tt tt refl first then
      by (Err e) tried then = went_then after_try (takes_then (omega arith)) (refused_after_try g at 0 d0 d1 d2 k2 n t first.calls tried first.told e) (λ same. absurd (not_untried e same)) tt first then

module _ {D A B : Type 0} {g : Ghosts D} {at : Top} {n t k : ℕ} {d0 d1 : D} {k0 k1 : Kept} where
  -- a refusal is one of any call
  pub ends_err : {e : Refused} → EndsCall {A = A} g at 0 n t k d0 d1 k0 k1 (Err e) → EndsCall {A = B} g at 0 n t k d0 d1 k0 k1 (Err e)
  ends_err is = record { told = tt; knows = tt; refused = is.refused; untried = is.untried; moves = is.moves; calls = is.calls }

  -- done, with another answer
  pub ends_as : {x : A} (y : B) → EndsCall g at 0 n t k d0 d1 k0 k1 (Ok x) → EndsCall g at 0 n t k d0 d1 k0 k1 (Ok y)
  ends_as y is = record { told = is.told; knows = tt; refused = tt; untried = tt; moves = is.moves; calls = is.calls }

-- ---- without a call

pub ends_none : {D A : Type 0} (g : Ghosts D) (at : Top) (floor n t k : ℕ) {d d1 : D} {kept k1 : Kept} (x : A) → d1 ≡ d → k1 ≡ kept → EndsCall g at floor n t k d d1 kept k1 (Ok x)
ends_none g at floor n t k {d} {kept = kept} x same still = rw (same, still) (record { told = λ b is. is; knows = tt; refused = tt; untried = tt; moves = takes_none kept k; calls = makes_none g d n t })

pub full_ends : {D A : Type 0} (g : Ghosts D) (at : Top) (floor n t k : ℕ) (d : D) (kept : Kept) (need : Need) → need.free ≡ sum kept.free → need.free < need.need + floor → EndsCall {A = A} g at floor n t k d d kept kept (Err (refusals.Full need))
full_ends g at floor n t k d kept need free less = record { told = tt; knows = tt; refused = (free, less); untried = λ same. cc; moves = takes_none kept k; calls = makes_none g d n t }

-- ---- the least Free block entered

module _ {D : Type 0} {g : Ghosts D} (at : Top) {old new : D} {before after : Kept} where
  found_why : (x : Refused) → IsFindRefusal g old new before x → (had_tried x ≡ false → OnlyReads g 1 old new) → after ≡ before → IsDraftRefusal g at 0 old new after x
  found_why (refusals.Full need) is only same = (is.0 ∙ sym is.2 ∙ ap (λ (k : Kept). sum k.free) (sym same), omega (arith, is.0, is.1))
  found_why (refusals.Disk tried) is only same = is
  found_why (refusals.Damaged damage) is only same = by is.why
    where
      content : g.content new ≡ g.content old
      content = (only refl).content

      by : ((damage.code ≡ 2) × (Tells g old → IsBadMap (g.content old) damage.block)) ⊎ ((damage.code ≡ 12) × IsMiscounted (Tells g old) (g.content old) before damage.block) → IsDraftDamage g at old new after damage
      by (inl (code, bad)) = NoMap code is.block (omega (arith, is.on_disk, (only refl).same.size)) (λ tells. subst (λ (c : Image). IsBadMap c damage.block) (sym content) (bad tells))
      by (inr (code, other)) = OtherCount code (miscounted_as (λ tells. tells) content same other)
  found_why refusals.Memory is only same = absurd is

  pub enters_ends : {e : MapEntry} {result : Result BlockNo Refused} → Enters g e old new before after result → EndsCall g at 0 2 1 1 old new before after result
  enters_ends {result = Ok x} is = let went = enters_went is in record { told = went.told; knows = tt; refused = tt; untried = tt; moves = went.moves; calls = went.calls }
  enters_ends {result = Err x} is =
      let went = enters_went is in
      record { told = tt; knows = tt; refused = found_why x is.refused is.unless_tried (is.kept refl); untried = λ same. (is.kept refl, reads_within g old new 1 2 (omega arith) (is.unless_tried (ap had_tried same))); moves = went.moves; calls = went.calls }

-- the node's block got
pub gets_ends : {D : Type 0} {g : Ghosts D} {n : ℕ} {old new : D} {before after : Kept} {drafting : Drafting} {result : Result BlockNo Refused} → GetsDraftNode g n old new before after drafting result
    → EndsCall g (top_of drafting) 0 2 1 (one_unless (is_fresh_node drafting n)) old new before after result
gets_ends {g = g} {n} {drafting = drafting} (Had fresh same kept is) = rw is (ends_none g (top_of drafting) 0 2 1 (one_unless (is_fresh_node drafting n)) _ same kept)
gets_ends {g = g} {old = old} {new} {before} {after} {drafting} {result} (Claims stale enters) = subst (λ (k : ℕ). EndsCall g (top_of drafting) 0 2 1 k old new before after result) (ap one_unless (sym stale)) (enters_ends (top_of drafting) enters)

-- ---- a block written

pub write_ends : {D : Type 0} {g : Ghosts D} {n : ℕ} {block : List ℕ} {old new : D} (at : Top) (kept : Kept) {result : Result (Unit {0}) Refused} → WritesDraftBlock g n block old new result → EndsCall g at 0 1 1 0 old new kept kept result
write_ends at kept {result = Ok x} is = record { told = is.told; knows = tt; refused = tt; untried = tt; moves = takes_none kept 0; calls = is.calls }
write_ends {g = g} {old = old} {new} at kept {result = Err e} is = record { told = tt; knows = tt; refused = subst (IsDraftRefusal g at 0 old new kept) (sym is.refused) is.stopped; untried = λ same. (let no : refusals.Disk true ≡ refusals.Disk false = sym is.refused ∙ same in cc); moves = takes_none kept 0; calls = is.calls }

-- after a call that tried something
module _ {D A : Type 0} {g : Ghosts D} {at : Top} {d0 d1 d2 : D} {k0 k1 : Kept} {x : A} {n t k c : ℕ} {block : List ℕ} (most tries : ℕ) where
  pub then_written : {result : Result (Unit {0}) Refused} → EndsCall g at 0 n t k d0 d1 k0 k1 (Ok x) → HasTried g d0 d1 → WritesDraftBlock g c block d1 d2 result → n + 1 ≤ most → t + 1 ≤ tries → EndsCall g at 0 most tries k d0 d2 k0 k1 result
  then_written {result = Ok u} first tried is calls lt = ends_then most tries k first (write_ends at k1 is) tt calls lt (omega arith)
  then_written {result = Err e} first tried is calls lt =
      subst (λ (y : Refused). EndsCall {A = Unit {0}} g at 0 most tries k d0 d2 k0 k1 (Err y)) (ap after_try is.refused ∙ sym is.refused) (ends_then most tries k first (write_ends at k1 is) tried calls lt (omega arith))

-- ---- what stays

pub stays_itself : (was : Drafting) → StaysBut was was
stays_itself was = record { at = refl; shadow = refl; own = refl; created = refl; word = refl; root = record { kind = refl; fill = refl; size = refl } }

-- ---- with other bounds

pub under_floor : {D : Type 0} (g : Ghosts D) (at : Top) (floor : ℕ) (d0 d1 : D) (kept : Kept) (e : Refused) → IsDraftRefusal g at 0 d0 d1 kept e → IsDraftRefusal g at floor d0 d1 kept e
under_floor g at floor d0 d1 kept (refusals.Full need) is = (is.0, omega (arith, is.1))
under_floor g at floor d0 d1 kept (refusals.Disk was) is = is
under_floor g at floor d0 d1 kept (refusals.Damaged damage) is = is
under_floor g at floor d0 d1 kept refusals.Memory is = is

-- with a floor, more calls and more blocks; no more can be taken than is there
pub ends_wider : {D A : Type 0} {g : Ghosts D} {at : Top} {n t k : ℕ} {d0 d1 : D} {k0 k1 : Kept} {r : Result A Refused} (floor most tries blocks : ℕ) → EndsCall g at 0 n t k d0 d1 k0 k1 r → n ≤ most → t ≤ tries → sum k0.free ≤ sum k1.free + blocks → EndsCall g at floor most tries blocks d0 d1 k0 k1 r
ends_wider {g = g} {at} {d0 = d0} {d1} {k1 = k1} floor most tries blocks is le lt takes = went_as most tries most (λ moves. record { cylinders = moves.cylinders; left = moves.left; takes = takes }) (under_floor g at floor d0 d1 k1) (λ e same. same) (λ x knows. knows) is le lt le

-- of another root at the block, which leads past the disk where this one does
pub ends_at : {D A : Type 0} {g : Ghosts D} {at now : Top} {n t k : ℕ} {d0 d1 : D} {k0 k1 : Kept} {r : Result A Refused} → at.block ≡ now.block → (at.IsFar (g.blocks d1) → now.IsFar (g.blocks d1)) → EndsCall g at 0 n t k d0 d1 k0 k1 r → EndsCall g now 0 n t k d0 d1 k0 k1 r
ends_at {g = g} {at} {now} {n} {t} {d0 = d0} {d1} {k1 = k1} same far is = went_as n t n (λ moves. moves) (refusal_as g at now same d0 d1 k1 far 0) (λ e same. same) (λ x knows. knows) is (omega arith) (omega arith) (omega arith)

-- as one of the draft's root, of which no pointer was followed
pub still_ends : {D A : Type 0} {g : Ghosts D} {d0 d1 : D} {k0 k1 : Kept} (was : Drafting) {n t k : ℕ} {r : Result A Refused} → EndsCall g (still_top was.at) 0 n t k d0 d1 k0 k1 r → EndsCall g (top_of was) 0 n t k d0 d1 k0 k1 r
still_ends was = ends_at {at = still_top was.at} {now = top_of was} refl (λ far. absurd far)

-- ---- refusals told after others

pub still_sound : (tried : Bool) (e : Refused) → has_met_damage e ≡ false → has_met_damage (refusal_after tried e) ≡ false
still_sound false e is = is
still_sound true (refusals.Full need) is = refl
still_sound true (refusals.Disk was) is = refl
still_sound true (refusals.Damaged damage) is = is
still_sound true refusals.Memory is = refl

pub still_room : (tried : Bool) (e : Refused) → is_full_refusal e ≡ false → is_full_refusal (refusal_after tried e) ≡ false
still_room false e is = is
still_room true (refusals.Full need) is = is
still_room true (refusals.Disk was) is = refl
still_room true (refusals.Damaged damage) is = refl
still_room true refusals.Memory is = refl

-- neither for want of a block nor of memory, where a block is Free
pub claim_real : {D : Type 0} (g : Ghosts D) (old new : D) (kept : Kept) (e : Refused) → 1 ≤ sum kept.free → IsFindRefusal g old new kept e → (is_full_refusal e ≡ false) × (e ≢ refusals.Memory)
claim_real g old new kept (refusals.Full need) some is = absurd (none some is.2)
  where
    none : 1 ≤ sum kept.free → sum kept.free ≡ 0 → ⊥
    none one nothing = omega (arith, one, nothing)
claim_real g old new kept (refusals.Disk tried) some is = (refl, λ same. cc)
claim_real g old new kept (refusals.Damaged damage) some is = (refl, λ same. cc)
claim_real g old new kept refusals.Memory some is = absurd is

-- ---- drafts and results, one after another

pub stays_then : (was mid now : Drafting) → StaysBut was mid → StaysBut mid now → StaysBut was now
stays_then was mid now first then = record {
  at = then.at ∙ first.at;
  shadow = then.shadow ∙ first.shadow;
  own = then.own ∙ first.own;
  created = then.created ∙ first.created;
  word = then.word ∙ first.word;
  root = record { kind = then.root.kind ∙ first.root.kind; fill = then.root.fill ∙ first.root.fill; size = then.root.size ∙ first.root.size };
}
