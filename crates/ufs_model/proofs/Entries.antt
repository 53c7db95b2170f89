-- The entries of a graph, where an object that is there is replaced.
use Rattle.std.proofs.Common.{◌≡◌, ◌≢◌, List, [], ◌∷◌, refl, sym, ap, arith, Some, None, true, false, cond}
use Rattle.ufs_model.proofs.Words.{AllByRecursion, Equal, Greater, IsTotalOrder, Less, Puid, alike_right, insert_entry, is_at, is_eq, keys_of, lookup, match_ordering, nat_cmp_total, nat_tests, on_total, puid_cmp, set_value, then_total, tied_itself}
use Rattle.std.specs.List.Sorted.{IsStrictlySortedBy}

pub puid_total : IsTotalOrder puid_cmp
puid_total = then_total (on_total (λ (p : Puid). p.block) nat_cmp_total) (on_total (λ (p : Puid). p.word) nat_cmp_total)

module _ {X : Type 0} (k : Puid) where
  -- nothing is found below all keys
  below_all : (d : Puid) (es : List (Puid × X)) → puid_cmp k d ≡ Less → AllByRecursion (λ y. puid_cmp d y ≡ Less) (keys_of es) → lookup (is_at (puid_cmp k)) es ≡ None
  below_all d [] less all = refl
  below_all d (e ∷ es) less all = rw (puid_total.trans k d e.0 less all.0) (below_all d es less all.1)

  -- what is put where something is found takes its place
  pub insert_entry-there : (es : List (Puid × X)) (old new : X) → IsStrictlySortedBy puid_cmp (keys_of es) → lookup (is_at (puid_cmp k)) es ≡ Some old → insert_entry puid_cmp es k new ≡ set_value (is_at (puid_cmp k)) es new
  unfolding IsStrictlySortedBy
  insert_entry-there [] old new sorted found = cc
  insert_entry-there (e ∷ es) old new sorted found =
      elim (puid_cmp k e.0) as (λ r. puid_cmp k e.0 ≡ r → insert_entry puid_cmp (e ∷ es) k new ≡ set_value (is_at (puid_cmp k)) (e ∷ es) new) [
        | Less ↦ λ is. absurd (let none = below_all e.0 es is sorted.0 in let found' : lookup (is_at (puid_cmp k)) es ≡ Some old = rw is at found in cc)
        | Equal ↦ λ is. rw is refl
        | Greater ↦ λ is. rw is (ap (λ rest. e ∷ rest) (insert_entry-there es old new sorted.1 (rw is at found)))
      ] refl

-- what is put where it was found leaves all as it was
pub put_back : {X : Type 0} (k : Puid) (es : List (Puid × X)) (v : X) → lookup (is_at (puid_cmp k)) es ≡ Some v → set_value (is_at (puid_cmp k)) es v ≡ es
put_back k [] v found = refl
put_back k (e ∷ es) v found =
    elim (is_eq (puid_cmp k e.0)) as (λ t. cond t (Some e.1) (lookup (is_at (puid_cmp k)) es) ≡ Some v → cond t ((e.0, v) ∷ es) (e ∷ set_value (is_at (puid_cmp k)) es v) ≡ e ∷ es) [
      | true ↦ λ here. let same : e.1 ≡ v = cc in ap (λ w. (e.0, w) ∷ es) (sym same)
      | false ↦ λ later. ap (λ rest. e ∷ rest) (put_back k es v later)
    ] found

-- what is put at one identifier leaves the others
pub lookup-insert_entry : {X : Type 0} (q k : Puid) (es : List (Puid × X)) (v : X) → is_eq (puid_cmp q k) ≡ false → lookup (is_at (puid_cmp q)) (insert_entry puid_cmp es k v) ≡ lookup (is_at (puid_cmp q)) es
lookup-insert_entry q k [] v other = rw other refl
lookup-insert_entry q k (e ∷ es) v other =
    elim (puid_cmp k e.0) as (λ r. puid_cmp k e.0 ≡ r → lookup (is_at (puid_cmp q)) (match_ordering r ((k, v) ∷ e ∷ es) ((e.0, v) ∷ es) (e ∷ insert_entry puid_cmp es k v)) ≡ lookup (is_at (puid_cmp q)) (e ∷ es)) [
      | Less ↦ λ is. rw other refl
      | Equal ↦ λ is. let not_here : is_eq (puid_cmp q e.0) ≡ false = rw (alike_right puid_total k e.0 q is) at other in rw not_here refl
      | Greater ↦ λ is. ap (λ rest. cond (is_eq (puid_cmp q e.0)) (Some e.1) rest) (lookup-insert_entry q k es v other)
    ] refl

-- identifiers with other blocks are others
pub other-blocks : (q k : Puid) → q.block ≢ k.block → is_eq (puid_cmp q k) ≡ false
other-blocks q k differ = grind (arith, nat_tests)

-- and is found there
pub lookup-insert_same : {X : Type 0} (k : Puid) (es : List (Puid × X)) (v : X) → lookup (is_at (puid_cmp k)) (insert_entry puid_cmp es k v) ≡ Some v
lookup-insert_same k [] v = rw (tied_itself puid_total k) refl
lookup-insert_same k (e ∷ es) v =
    elim (puid_cmp k e.0) as (λ r. puid_cmp k e.0 ≡ r → lookup (is_at (puid_cmp k)) (match_ordering r ((k, v) ∷ e ∷ es) ((e.0, v) ∷ es) (e ∷ insert_entry puid_cmp es k v)) ≡ Some v) [
      | Less ↦ λ is. rw (tied_itself puid_total k) refl
      | Equal ↦ λ is. rw is refl
      | Greater ↦ λ is. rw is (lookup-insert_same k es v)
    ] refl
