-- What a table lists: the kind of an identifier, its root blocks, one more and one less.
use Rattle.std.proofs.Common.{◌≡◌, ◌≢◌, ℕ, zero, suc, ◌+◌, ◌<◌, List, [], ◌∷◌, length, get_or, set, refl, sym, ap, ◌∙◌, arith, Option, Some, None, true, false, cond, eqb, is_some}
use Rattle.puid_space.proofs.Words.{Cell, Greater, Kind, Less, Puid, has_root_in, insert_entry, directory_kind, listed, nat_tests, puid_cmp, same_puid, without_id}

-- ---- two identifiers

pub below : (a c : Puid) → a.block < c.block → puid_cmp a c ≡ Less
below a c h = grind (arith, nat_tests)

above : (a c : Puid) → c.block < a.block → puid_cmp a c ≡ Greater
above a c h = grind (arith, nat_tests)

apart : (a c : Puid) → a.block ≢ c.block → same_puid a c ≡ false
apart a c h = grind (arith, nat_tests)

in_one_block : (a c : Puid) → a.block ≡ c.block → same_puid a c ≡ eqb c.word a.word
in_one_block a c h = grind (arith, nat_tests)

-- ---- the kind of one

-- the kind that a cell gives an identifier of its block
abbrev pub kind_here : Option Cell → ℕ → Option Kind
kind_here None word = None
kind_here (Some cell) word = cond (eqb cell.word word) (Some cell.kind) None

kind-above : (b : ℕ) (cells : List (Option Cell)) (id : Puid) → id.block < b → directory_kind (listed b cells) id ≡ None
kind-above b [] id h = refl
kind-above b (None ∷ cells) id h = kind-above (b + 1) cells id (omega arith)
kind-above b (Some cell ∷ cells) id h =
    rw (apart id (record { block = b; word = cell.word }) (omega arith)) (kind-above (b + 1) cells id (omega arith))

pub kind-listed : (b : ℕ) (cells : List (Option Cell)) (i : ℕ) (id : Puid) → id.block ≡ b + i
    → directory_kind (listed b cells) id ≡ kind_here (get_or cells i None) id.word
kind-listed b [] i id h = refl
kind-listed b (None ∷ cells) zero id h = kind-above (b + 1) cells id (omega arith)
kind-listed b (None ∷ cells) (suc i) id h = kind-listed (b + 1) cells i id (omega arith)
kind-listed b (Some cell ∷ cells) zero id h =
    rw (in_one_block id (record { block = b; word = cell.word }) (omega arith), kind-above (b + 1) cells id (omega arith)) refl
kind-listed b (Some cell ∷ cells) (suc i) id h =
    rw (apart id (record { block = b; word = cell.word }) (omega arith)) (kind-listed (b + 1) cells i id (omega arith))

-- ---- the root blocks

root-above : (b : ℕ) (cells : List (Option Cell)) (n : ℕ) → n < b → has_root_in (listed b cells) n ≡ false
root-above b [] n h = refl
root-above b (None ∷ cells) n h = root-above (b + 1) cells n (omega arith)
root-above b (Some cell ∷ cells) n h = let rest = root-above (b + 1) cells n (omega arith) in grind (arith, nat_tests)

pub root-listed : (b : ℕ) (cells : List (Option Cell)) (i n : ℕ) → n ≡ b + i → has_root_in (listed b cells) n ≡ is_some (get_or cells i None)
root-listed b [] i n h = refl
root-listed b (None ∷ cells) zero n h = root-above (b + 1) cells n (omega arith)
root-listed b (None ∷ cells) (suc i) n h = root-listed (b + 1) cells i n (omega arith)
root-listed b (Some cell ∷ cells) zero n h = grind (arith, nat_tests)
root-listed b (Some cell ∷ cells) (suc i) n h = let rest = root-listed (b + 1) cells i n (omega arith) in grind (arith, nat_tests)

-- ---- one more

insert-above : (b : ℕ) (cells : List (Option Cell)) (id : Puid) (kind : Kind) → id.block < b
    → insert_entry puid_cmp (listed b cells) id kind ≡ (id, kind) ∷ listed b cells
insert-above b [] id kind h = refl
insert-above b (None ∷ cells) id kind h = insert-above (b + 1) cells id kind (omega arith)
insert-above b (Some cell ∷ cells) id kind h = rw (below id (record { block = b; word = cell.word }) h) refl

pub listed-filled : (b : ℕ) (cells : List (Option Cell)) (i : ℕ) (id : Puid) (kind : Kind) → id.block ≡ b + i → i < length cells → get_or cells i None ≡ None
    → listed b (set cells i (Some (record { word = id.word; kind = kind }))) ≡ insert_entry puid_cmp (listed b cells) id kind
listed-filled b [] i id kind h inside free = absurd (omega arith)
listed-filled b (None ∷ cells) zero id kind h inside free =
    let at_b : b ≡ id.block = omega arith in
    rw at_b (sym (insert-above (id.block + 1) cells id kind (omega arith)))
listed-filled b (None ∷ cells) (suc i) id kind h inside free = listed-filled (b + 1) cells i id kind (omega arith) (omega arith) free
listed-filled b (Some cell ∷ cells) zero id kind h inside free = cc
listed-filled b (Some cell ∷ cells) (suc i) id kind h inside free =
    rw (above id (record { block = b; word = cell.word }) (omega arith)) (ap (λ rest. (record { block = b; word = cell.word }, cell.kind) ∷ rest) (listed-filled (b + 1) cells i id kind (omega arith) (omega arith) free))

-- ---- one less

without-above : (b : ℕ) (cells : List (Option Cell)) (id : Puid) → id.block < b → without_id (listed b cells) id ≡ listed b cells
without-above b [] id h = refl
without-above b (None ∷ cells) id h = without-above (b + 1) cells id (omega arith)
without-above b (Some cell ∷ cells) id h =
    rw (apart (record { block = b; word = cell.word }) id (omega arith)) (ap (λ rest. (record { block = b; word = cell.word }, cell.kind) ∷ rest) (without-above (b + 1) cells id (omega arith)))

pub listed-emptied : (b : ℕ) (cells : List (Option Cell)) (i : ℕ) (id : Puid) (kind : Kind) → id.block ≡ b + i → get_or cells i None ≡ Some (record { word = id.word; kind = kind })
    → listed b (set cells i None) ≡ without_id (listed b cells) id
listed-emptied b [] i id kind h there = cc
listed-emptied b (None ∷ cells) zero id kind h there = cc
listed-emptied b (None ∷ cells) (suc i) id kind h there = listed-emptied (b + 1) cells i id kind (omega arith) there
listed-emptied b (Some cell ∷ cells) zero id kind h there =
    let is : cell.word ≡ id.word = cc in
    let same : same_puid (record { block = b; word = cell.word }) id ≡ true = grind (arith, nat_tests) in
    rw same (sym (without-above (b + 1) cells id (omega arith)))
listed-emptied b (Some cell ∷ cells) (suc i) id kind h there =
    rw (apart (record { block = b; word = cell.word }) id (omega arith)) (ap (λ rest. (record { block = b; word = cell.word }, cell.kind) ∷ rest) (listed-emptied (b + 1) cells i id kind (omega arith) there))

-- what is not there is not missed
pub without-absent : (named : List (Puid × Kind)) (id : Puid) → directory_kind named id ≡ None → without_id named id ≡ named
without-absent [] id none = refl
without-absent (e ∷ named) id none =
    elim (same_puid id e.0) as (λ t. same_puid id e.0 ≡ t → without_id (e ∷ named) id ≡ e ∷ named) [
      | true ↦ λ is. absurd (let found : Some e.1 ≡ None = rw is at none in cc)
      | false ↦ λ is.
          let other : same_puid e.0 id ≡ false = swapped e.0 id ∙ is in
          let rest : directory_kind named id ≡ None = rw is at none in
          rw other (ap (λ rest. e ∷ rest) (without-absent named id rest))
    ] refl
  where
    swapped : (a c : Puid) → same_puid a c ≡ same_puid c a
    swapped a c = grind (arith, nat_tests)

-- where the identifier is listed its cell has its word and its kind
pub cell-listed : (cells : List (Option Cell)) (id : Puid) (kind : Kind) → directory_kind (listed 0 cells) id ≡ Some kind
    → get_or cells id.block None ≡ Some (record { word = id.word; kind = kind })
cell-listed cells id kind is = at (get_or cells id.block None) refl (sym (kind-listed 0 cells id.block id (omega arith)) ∙ is)
  where
    at : (o : Option Cell) → get_or cells id.block None ≡ o → kind_here o id.word ≡ Some kind → o ≡ Some (record { word = id.word; kind = kind })
    at None here says = cc
    at (Some cell) here says = elim (eqb cell.word id.word) as (λ t. eqb cell.word id.word ≡ t → cond t (Some cell.kind) None ≡ Some kind → Some cell ≡ Some (record { word = id.word; kind = kind })) [
      | true ↦ λ same given. let word : cell.word ≡ id.word = grind (arith, nat_tests) in let sort : cell.kind ≡ kind = cc in λ i. Some (record { word = word i; kind = sort i })
      | false ↦ λ other given. cc
    ] refl says
