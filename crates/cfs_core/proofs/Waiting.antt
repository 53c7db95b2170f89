-- The Free blocks, and those that are still to be freed.
use Rattle.std.proofs.Common.{◌≡◌, ℕ, ◌+◌, Bool, true, false, List, [], ◌∷◌, length, Option, Some, None, refl, sym, ◌∙◌, ap, arith, sum}
use Rattle.std.specs.Prelude.{◌&&◌, not, count_by}
use Rattle.std.specs.List.{range_with_len}
use Rattle.cfs_base.specs.Disk.{Image}
use Rattle.cfs_core.proofs.Words.{Ghosts, Graph, State, MapEntry}
use Rattle.cyl_alloc.proofs.Ranges.{count-cons, one}
use Rattle.cyl_alloc.specs.Left.{LeftCommit}
use Rattle.cyl_alloc.specs.Space.{Kept}
use Rattle.cyl_map.specs.Volume.{entry_in, free_from, is_free_entry, is_free_in}
use Rattle.intentions.specs.Left.{IsGoing, StoreWith, coming}
use Rattle.intentions.proofs.Settled.{left_entry, settled_free}
use Rattle.cfs_core.specs.Kernel.{Kernel}
use Rattle.cfs_core.specs.Room.{to_be_freed}
use Rattle.cfs_core.specs.StandsFor.{ServesIs, drafts_of_handles, end_in, free_of, free_to_come, free_with}
use Rattle.cfs_core.proofs.Serving.{counted}
use Rattle.cfs_core.proofs.Stored.{length_in}

of_one : (b c : Bool) → (b ≡ true → c ≡ true) → one b + one (c && not b) ≡ one c
of_one true true h = refl
of_one true false h = let no = h refl in cc
of_one false true h = refl
of_one false false h = refl

-- of two tests the one that holds wherever the other does
count_more : (p q : ℕ → Bool) (ns : List ℕ) → ((n : ℕ) → p n ≡ true → q n ≡ true) → count_by p ns + count_by (λ n. q n && not (p n)) ns ≡ count_by q ns
count_more p q [] more = refl
count_more p q (n ∷ ns) more =
    let rest = count_more p q ns more in
    let here = of_one (p n) (q n) (more n) in
    omega (arith, count-cons p n ns, count-cons (λ m. q m && not (p m)) n ns, count-cons q n ns, rest, here)

-- ---- together they are those that are Free in the end

none_waits : (image : Image) → to_be_freed image image ≡ 0
none_waits image = let all = count_more (is_free_in image) (is_free_in image) (range_with_len 0 (length image)) (λ n free. free) in omega (arith, all)

waits_for : (a b : Image) → length b ≡ length a → ((n : ℕ) → is_free_in a n ≡ true → is_free_in b n ≡ true) → free_of a + to_be_freed a b ≡ free_of b
waits_for a b wide stays = count_more (is_free_in a) (is_free_in b) (range_with_len 0 (length a)) stays ∙ ap (λ (n : ℕ). free_from b 0 n) (sym wide)

-- no Free block is taken by what is left of a commit
stays_free : {D : Type 0} (g : Ghosts D) (graph : Graph) (d : D) (k : Kept) (l : LeftCommit) → IsGoing g graph d k l → (n : ℕ) → is_free_in (g.content d) n ≡ true → is_free_in (coming (g.content d) (Some l)) n ≡ true
stays_free g graph d k l has n free = by (entry_in (g.content d) n) refl
  where
    by : (was : Option MapEntry) → entry_in (g.content d) n ≡ was → is_free_in (coming (g.content d) (Some l)) n ≡ true
    by None was = (let no : false ≡ true = sym (ap is_free_entry was) ∙ free in cc)
    by (Some e) was = ap is_free_entry (left_entry g graph d l has.id has.object has.root_is l.copied has.goes n e was) ∙ settled_free l n e (sym (ap is_free_entry was) ∙ free)

pub together : {D : Type 0} (g : Ghosts D) (k : Kernel D) (s : State) → ServesIs g k s → (n : ℕ) → n ≡ sum k.space.free → n + to_be_freed (g.content k.disk) (end_in g k) ≡ free_to_come g k
together g k s serves n is = by k.space.left serves.store
  where
    by : (w : Option LeftCommit) → StoreWith g s.graph (drafts_of_handles k.handles s.grants) k.disk k.space w → n + to_be_freed (g.content k.disk) (coming (g.content k.disk) w) ≡ free_with g k w
    by None store = omega (arith, is, none_waits (g.content k.disk))
    by (Some l) has = ap (λ (m : ℕ). m + to_be_freed (g.content k.disk) (coming (g.content k.disk) (Some l))) (is ∙ counted g k s serves)
        ∙ waits_for (g.content k.disk) (coming (g.content k.disk) (Some l)) (length_in (g.content k.disk) (Some l)) (stays_free g s.graph k.disk k.space l has.going)
