-- Root blocks, and the part of a graph that has one.
use Rattle.std.proofs.Common.{◌≡◌, ℕ, ◌+◌, List, [], ◌∷◌, refl, sym, ◌∙◌, inl, inr, ⊎_elim, ◌⊎◌, true, false, Bool, cond, ◌||◌, arith, Some}
use Rattle.ufs_model.proofs.Words.{Equal, Excluded, Greater, Included, Less, Object, Puid, entries_between, has_block, insert_entry, is_at, is_eq, lookup, match_ordering, nat_tests, puid_cmp, range_contains, ◌==◌}
use Rattle.ufs_model.proofs.Entries.{lookup-insert_entry, lookup-insert_same, other-blocks}

-- the identifiers with a block are those from word 0 on and before the next block's
in_block : (b : ℕ) (q : Puid) → range_contains puid_cmp (Included (record { block = b; word = 0 })) (Excluded (record { block = b + 1; word = 0 })) q ≡ (q.block == b)
in_block b q = grind (arith, nat_tests)

abbrev part : ℕ → List (Puid × Object) → List (Puid × Object)
part b es = entries_between puid_cmp (Included (record { block = b; word = 0 })) (Excluded (record { block = b + 1; word = 0 })) es

none_there : (t u : Bool) (e : Puid × Object) (rest : List (Puid × Object)) → t ≡ u → cond t (e ∷ rest) rest ≡ [] → (u ≡ false) × (rest ≡ [])
none_there true u e rest same h = cc
none_there false u e rest same h = (sym same, h)

one_there : (t u : Bool) (e d : Puid × Object) (rest more : List (Puid × Object)) → t ≡ u → cond t (e ∷ rest) rest ≡ d ∷ more → (u ≡ true) ⊎ (rest ≡ d ∷ more)
one_there true u e d rest more same h = inl (sym same)
one_there false u e d rest more same h = inr h

pub has_block-none : (b : ℕ) (es : List (Puid × Object)) → part b es ≡ [] → has_block es b ≡ false
has_block-none b [] h = refl
has_block-none b (e ∷ es) h =
    let first = none_there _ _ e (part b es) (in_block b e.0) h in
    rw first.0 (has_block-none b es first.1)

either_true : (t u : Bool) → (t ≡ true) ⊎ (u ≡ true) → (t || u) ≡ true
either_true true u h = refl
either_true false u h = ⊎_elim (λ no. cc) (λ yes. yes) h

pub has_block-some : (b : ℕ) (es rest : List (Puid × Object)) (e : Puid × Object) → part b es ≡ e ∷ rest → has_block es b ≡ true
has_block-some b [] rest e h = cc
has_block-some b (d ∷ es) rest e h =
    either_true _ _ (⊎_elim (λ here. inl here) (λ later. inr (has_block-some b es rest e later)) (one_there _ _ d e (part b es) rest (in_block b d.0) h))

-- ---- more objects

either_one : (t u : Bool) → u ≡ true → (t || u) ≡ true
either_one t u h = either_true t u (inr h)

-- an object that is there has its block
pub has_block-there : (q : Puid) (es : List (Puid × Object)) (o : Object) → lookup (is_at (puid_cmp q)) es ≡ Some o → has_block es q.block ≡ true
has_block-there q [] o h = cc
has_block-there q (e ∷ es) o h =
    elim (is_eq (puid_cmp q e.0)) as (λ t. is_eq (puid_cmp q e.0) ≡ t → cond t (Some e.1) (lookup (is_at (puid_cmp q)) es) ≡ Some o → ((e.0.block == q.block) || has_block es q.block) ≡ true) [
      | true ↦ λ same found. either_true _ _ (inl (same_block q e.0 same))
      | false ↦ λ other found. either_one _ _ (has_block-there q es o found)
    ] refl h
  where
    same_block : (a b : Puid) → is_eq (puid_cmp a b) ≡ true → (b.block == a.block) ≡ true
    same_block a b h = grind (arith, nat_tests)

-- what is put there has its block, and the others keep theirs
pub has_block-new : (k : Puid) (v : Object) (es : List (Puid × Object)) → has_block (insert_entry puid_cmp es k v) k.block ≡ true
has_block-new k v es = has_block-there k (insert_entry puid_cmp es k v) v (lookup-insert_same k es v)

pub has_block-still : (b : ℕ) (k : Puid) (v : Object) (es : List (Puid × Object)) → has_block es b ≡ true → has_block (insert_entry puid_cmp es k v) b ≡ true
has_block-still b k v [] h = cc
has_block-still b k v (e ∷ es) h =
    elim (puid_cmp k e.0) as (λ r. has_block (match_ordering r ((k, v) ∷ e ∷ es) ((e.0, v) ∷ es) (e ∷ insert_entry puid_cmp es k v)) b ≡ true) [
      | Less ↦ either_one _ _ h
      | Equal ↦ h
      | Greater ↦ later (e.0.block == b) (has_block es b) (has_block (insert_entry puid_cmp es k v) b) (has_block-still b k v es) h
    ]
  where
    later : (t u w : Bool) → (u ≡ true → w ≡ true) → (t || u) ≡ true → (t || w) ≡ true
    later true u w f h = refl
    later false u w f h = f h

-- a new object with a block of its own leaves what is there
pub found_still : (q k : Puid) (es : List (Puid × Object)) (o v : Object) → lookup (is_at (puid_cmp q)) es ≡ Some o → has_block es k.block ≡ false
    → lookup (is_at (puid_cmp q)) (insert_entry puid_cmp es k v) ≡ Some o
found_still q k es o v found free =
    lookup-insert_entry q k es v (other-blocks q k (λ same. let taken : has_block es k.block ≡ true = rw (← same) (has_block-there q es o found) in cc)) ∙ found
