-- What was read of a volume, object by object, is no more than its graph has.
use Rattle.std.proofs.Common.{◌≡◌, ℕ, ◌+◌, ◌<◌, ◌≤◌, ◌||◌, Bool, true, false, cond, not, List, [], ◌∷◌, length, Some, None, refl, sym, ◌∙◌, ap, subst, arith}
use Rattle.cfs_recover.proofs.Words.{Found, Ghosts, Graph, Holds, Image, IsWalk, Kind, Object, OnlyReads, Puid, Walk, false_from_ne_true, filter, is_among, is_at, kinds_of, object_at, object_at-without, object_there, puid_cmp, reads_then, same_Some, same_block, same_puid, same_puid_is, same_puid_itself, sight, slice_get, sum_by, sum_by-cons, without}
use Rattle.std.specs.Map.{lookup}
use Rattle.vol_image.proofs.Unique.{one_object}
use Rattle.vol_owners.proofs.Keys.{differs}
use Rattle.cfs_recover.specs.Reads.{AreRead, HasRead, IsReadAt, IsReadItem, reads_wanted, reads_of_all}
use Rattle.cfs_recover.proofs.Listings.{listed}
use Rattle.cfs_recover.proofs.Noting.{there_listed}

-- ---- what was read stays so, as the list grows

module _ (image : Image) (old new : List Found) (grows : (k : ℕ) (x : Found) → slice_get old k ≡ Some x → slice_get new k ≡ Some x) where
  pub read_on : (done : ℕ) (es : List (Puid × Object)) → AreRead image old done es → AreRead image new done es
  read_on done [] none = none
  read_on done (e ∷ es) (before, is, at, rest) =
      (before, is, record { item = at.item; here = grows before at.item at.here; block = at.block; reads_as = at.reads_as }, read_on before es rest)

-- ---- sums

abbrev cost : Puid × Object → ℕ
cost e = reads_wanted e.1

sum_kept : (p : Puid × Object → Bool) (es : List (Puid × Object)) → sum_by cost (filter p es) ≤ sum_by cost es
sum_kept p [] = omega arith
sum_kept p (e ∷ es) = at (p e) refl (sum_kept p es)
  where
    at : (b : Bool) → p e ≡ b → sum_by cost (filter p es) ≤ sum_by cost es → sum_by cost (filter p (e ∷ es)) ≤ sum_by cost (e ∷ es)
    at true is rest = rw is (omega (arith, sum_by-cons cost e (filter p es), sum_by-cons cost e es, rest))
    at false is rest = rw is (omega (arith, sum_by-cons cost e es, rest))

-- one and all others
sum_others : (id : Puid) (o : Object) (es : List (Puid × Object)) → lookup (is_at (puid_cmp id)) es ≡ Some o
    → reads_wanted o + sum_by cost (filter (λ e. not (is_among e.0 (id ∷ []))) es) ≤ sum_by cost es
sum_others id o [] there = cc
sum_others id o (e ∷ es) there = at (same_puid id e.0) refl (sum_others id o es)
  where
    others : Puid × Object → Bool
    others d = not (is_among d.0 (id ∷ []))

    at : (b : Bool) → same_puid id e.0 ≡ b → (lookup (is_at (puid_cmp id)) es ≡ Some o → reads_wanted o + sum_by cost (filter others es) ≤ sum_by cost es)
        → reads_wanted o + sum_by cost (filter others (e ∷ es)) ≤ sum_by cost (e ∷ es)
    at true is rest =
        let here : e.1 ≡ o = same_Some _ _ (sym (ap (λ (b : Bool). cond b (Some e.1) (lookup (is_at (puid_cmp id)) es)) is) ∙ there) in
        let same : same_puid e.0 id ≡ true = subst (λ (x : Puid). same_puid x id ≡ true) (same_puid_is id e.0 is) (same_puid_itself id) in
        let gone : others e ≡ false = ap (λ (b : Bool). not (b || false)) same in
        rw gone (omega (arith, sum_by-cons cost e es, sum_kept others es, ap reads_wanted here))
    at false other rest =
        let less = rest (sym (ap (λ (b : Bool). cond b (Some e.1) (lookup (is_at (puid_cmp id)) es)) other) ∙ there) in
        let stays : others e ≡ true = ap (λ (b : Bool). not (b || false)) (differs id e.0 other) in
        rw stays (omega (arith, sum_by-cons cost e (filter others es), sum_by-cons cost e es, less))

module _ (image : Image) (found : List Found) (once : (j k : ℕ) (x y : Found) → slice_get found j ≡ Some x → slice_get found k ≡ Some y → x.block ≡ y.block → j ≡ k) where
  -- each that was read is another
  apart : (j k : ℕ) (d e : Puid × Object) → IsReadAt image found j d → IsReadAt image found k e → j < k → same_puid d.0 e.0 ≡ false
  apart j k d e one two less = false_from_ne_true _ (λ same.
      let is = same_puid_is d.0 e.0 same in
      let number = once j k one.item two.item one.here two.here (one.block ∙ ap (λ (x : Puid). x.block) is ∙ sym two.block) in
      omega (arith, number, less))

  pub sum_read : (g : Graph) (done : ℕ) (es : List (Puid × Object)) → AreRead image found done es
      → ((k : ℕ) (e : Puid × Object) → k < done → IsReadAt image found k e → object_at g e.0 ≡ Some e.1) → reads_of_all es ≤ reads_of_all g.objects
  sum_read g done [] none there = omega arith
  sum_read g done (e ∷ es) (before, is, at, rest) there =
      let left = without g (e.0 ∷ []) in
      let others = sum_read left before es rest (λ k d less one.
      object_at-without g (e.0 ∷ []) d.0 ∙ ap (λ (b : Bool). cond (not (b || false)) (object_at g d.0) None) (apart k before d e one at less) ∙ there k d (omega (arith, less, is)) one) in
      omega (arith, sum_by-cons cost e es, others, sum_others e.0 e.1 g.objects (there before e (omega (arith, is)) at))

-- one more is read
pub read_then : {D : Type 0} (g : Ghosts D) (image : Image) (old new : List Found) (grows : (k : ℕ) (x : Found) → slice_get old k ≡ Some x → slice_get new k ≡ Some x) (done : ℕ) (x : Found) → slice_get new done ≡ Some x → (a b c : D)
    → HasRead g image old done a b → ((reads : ℕ) × IsReadItem image x reads × OnlyReads g reads b c) → HasRead g image new (done + 1) a c
read_then g image old new grows done x here a b c (es, are, before) (reads, item, after) = (
  (item.id, item.object) ∷ es,
  (done, refl, record { item = x; here = here; block = item.block; reads_as = item.reads_as }, read_on image old new grows done es are),
  reads_then g a b c (reads_of_all es) reads (reads_of_all ((item.id, item.object) ∷ es)) before after (omega (arith, item.count, sum_by-cons cost (item.id, item.object) es)),
)

-- ---- all that a walk has found is in the graph

module _ (image : Image) (w : Walk) (done : ℕ) (walk : IsWalk image w done) (g : Graph) (holds : Holds image g) (named : w.directory.named ≡ kinds_of g) where
  in_graph : (k : ℕ) (e : Puid × Object) → IsReadAt image w.found.items k e → object_at g e.0 ≡ Some e.1
  in_graph k e at =
      let item = walk.found k at.item at.here in
      let there = object_there g item.id (there_listed g item.id (sym (ap (λ (n : List (Puid × Kind)). listed n item.id) named) ∙ item.listed)) in
      let same : e.0 ≡ item.id = same_block image (length image) e.0 item.id e.1 there.0 at.reads_as (holds.objects item.id there.0 there.1) (sym at.block ∙ item.block) in
      let here : object_at g e.0 ≡ Some there.0 = ap (object_at g) same ∙ there.1 in
      here ∙ ap Some (one_object (length image) e.0 (sight image e.0.block) there.0 e.1 (holds.objects e.0 there.0 here) at.reads_as)

  pub no_more_than_graph : (es : List (Puid × Object)) → AreRead image w.found.items done es → reads_of_all es ≤ reads_of_all g.objects
  no_more_than_graph es read = sum_read image w.found.items walk.once g done es read (λ k e less at. in_graph k e at)
