-- Identifiers taken out in one pass over the table.
use Rattle.std.proofs.Common.{◌≡◌, ℕ, zero, suc, ◌+◌, ◌-◌, ◌<◌, ◌≤◌, List, [], ◌∷◌, ◌++◌, length, get_or, set, take, drop, refl, sym, ap, ◌∙◌, arith, Option, Some, None, Bool, true, false, cond, not, add-one, append-nil, append_assoc}
use Rattle.puid_space.proofs.Words.{Cell, IsTable, Kind, Puid, drop-drop, drop-set-lt, filter, filter-append, get_or-drop, kept_by, keys_of, length-set, listed, map-append, take-set, take_all, taken_by}
use Rattle.std.proofs.lemmas.List.{get_or-set_same}
use Rattle.puid_space.proofs.Firsts.{listed_here}
use Rattle.puid_space.proofs.Tables.{count_here, length-set_listed, IsTable-emptied}

-- ---- one cell more

listed-take : (b : ℕ) (cells : List (Option Cell)) (n m : ℕ) → m ≡ b + n → listed b (take (n + 1) cells) ≡ listed b (take n cells) ++ listed_here m (get_or cells n None)
listed-take b [] zero m is = refl
listed-take b [] (suc n) m is = rw (add-one (suc n)) refl
listed-take b (None ∷ cells) zero m is = refl
listed-take b (Some cell ∷ cells) zero m is = let at_b : m ≡ b = omega arith in rw at_b refl
listed-take b (None ∷ cells) (suc n) m is = rw (add-one (suc n)) (rw (add-one n) at (listed-take (b + 1) cells n m (omega arith)))
listed-take b (Some cell ∷ cells) (suc n) m is =
    rw (add-one (suc n)) (ap (λ rest. (record { block = b; word = cell.word }, cell.kind) ∷ rest) (rw (add-one n) at (listed-take (b + 1) cells n m (omega arith))))

same_there : (n : ℕ) (xs ys : List (Option Cell)) → drop n xs ≡ drop n ys → get_or xs n None ≡ get_or ys n None
same_there n xs ys same =
    let at_n : n + 0 ≡ n = omega arith in
    ap (λ k. get_or xs k None) (sym at_n) ∙ sym (get_or-drop n xs 0 None) ∙ ap (λ zs. get_or zs 0 None) same ∙ get_or-drop n ys 0 None ∙ ap (λ k. get_or ys k None) at_n

drop_next : (n : ℕ) (xs ys : List (Option Cell)) → drop n xs ≡ drop n ys → drop (n + 1) xs ≡ drop (n + 1) ys
drop_next n xs ys same = sym (drop-drop 1 n xs) ∙ ap (drop 1) same ∙ drop-drop 1 n ys

-- what a test keeps and takes of one more cell
kept_by-more : (test : ℕ → Bool) (xs ys : List (Puid × Kind)) → kept_by test (xs ++ ys) ≡ kept_by test xs ++ kept_by test ys
kept_by-more test xs ys = filter-append (λ e. test e.0.block) xs ys

taken_by-more : (test : ℕ → Bool) (xs ys : List (Puid × Kind)) → taken_by test (xs ++ ys) ≡ taken_by test xs ++ taken_by test ys
taken_by-more test xs ys = ap (λ es. keys_of es) (filter-append (λ e. not (test e.0.block)) xs ys) ∙ map-append (λ (e : Puid × Kind). e.0) (filter (λ e. not (test e.0.block)) xs) (filter (λ e. not (test e.0.block)) ys)

-- ---- the pass

-- of the cells below the block those are left that each test keeps which the closure computes
pub record IsTaken (Says : (ℕ → Bool) → Type 0) (old now : List (Option Cell)) (count block : ℕ) (before after : List Puid) : Type 0 where
  pub table : IsTable now count
  pub size : length now ≡ length old
  pub rest : drop block now ≡ drop block old
  pub kept : (test : ℕ → Bool) → Says test → listed 0 (take block now) ≡ kept_by test (listed 0 (take block old))
  pub gone : (test : ℕ → Bool) → Says test → after ≡ before ++ taken_by test (listed 0 (take block old))

module _ {Says : (ℕ → Bool) → Type 0} {old now : List (Option Cell)} {count block : ℕ} {before after : List Puid} (so_far : IsTaken Says old now count block before after) where
  old_next : listed 0 (take (block + 1) old) ≡ listed 0 (take block old) ++ listed_here block (get_or now block None)
  old_next = listed-take 0 old block block (omega arith) ∙ ap (λ cell. listed 0 (take block old) ++ listed_here block cell) (sym (same_there block now old so_far.rest))

  now_next : listed 0 (take (block + 1) now) ≡ listed 0 (take block now) ++ listed_here block (get_or now block None)
  now_next = listed-take 0 now block block (omega arith)

  -- a cell that every such test keeps
  stays : ((test : ℕ → Bool) → Says test → (kept_by test (listed_here block (get_or now block None)) ≡ listed_here block (get_or now block None)) × (taken_by test (listed_here block (get_or now block None)) ≡ []))
      → IsTaken Says old now count (block + 1) before after
  stays keeps = record {
    table = so_far.table;
    size = so_far.size;
    rest = drop_next block now old so_far.rest;
    kept = λ test says.
        now_next ∙ ap (λ front. front ++ listed_here block (get_or now block None)) (so_far.kept test says)
        ∙ ap (λ last. kept_by test (listed 0 (take block old)) ++ last) (sym (keeps test says).0)
        ∙ sym (ap (kept_by test) old_next ∙ kept_by-more test (listed 0 (take block old)) _);
    gone = λ test says.
        so_far.gone test says
        ∙ ap (λ ids. before ++ ids) (sym (ap (taken_by test) old_next ∙ taken_by-more test (listed 0 (take block old)) _ ∙ ap (λ last. taken_by test (listed 0 (take block old)) ++ last) (keeps test says).1 ∙ append-nil _));
  }

  pub IsTaken-empty : get_or now block None ≡ None → IsTaken Says old now count (block + 1) before after
  IsTaken-empty none = stays (λ test says. rw none (refl, refl))

  pub IsTaken-kept : (cell : Cell) → get_or now block None ≡ Some cell → ((test : ℕ → Bool) → Says test → test block ≡ true) → IsTaken Says old now count (block + 1) before after
  IsTaken-kept cell some keeps = stays (λ test says. rw some (rw (keeps test says) (refl, refl)))

  pub IsTaken-gone : (cell : Cell) → get_or now block None ≡ Some cell → block < length now → ((test : ℕ → Bool) → Says test → test block ≡ false)
      → IsTaken Says old (set now block None) (count - 1) (block + 1) before (after ++ record { block = block; word = cell.word } ∷ [])
  IsTaken-gone cell some inside fails =
      let now' = set now block None in
      let id : Puid = record { block = block; word = cell.word } in
      let old_next' : listed 0 (take (block + 1) old) ≡ listed 0 (take block old) ++ (id, cell.kind) ∷ [] = old_next ∙ ap (λ x. listed 0 (take block old) ++ listed_here block x) some in
      record {
        table = IsTable-emptied now count block cell so_far.table inside some;
        size = length-set now block None ∙ so_far.size;
        rest = drop-set-lt (block + 1) now block None (omega arith) ∙ drop_next block now old so_far.rest;
        kept = λ test says.
            listed-take 0 now' block block (omega arith)
            ∙ ap (λ x. listed 0 (take block now') ++ listed_here block x) (get_or-set_same now block None None inside)
            ∙ append-nil _ ∙ ap (listed 0) (take-set now block None) ∙ so_far.kept test says
            ∙ sym (ap (kept_by test) old_next' ∙ kept_by-more test (listed 0 (take block old)) ((id, cell.kind) ∷ []) ∙ ap (λ t. kept_by test (listed 0 (take block old)) ++ cond t ((id, cell.kind) ∷ []) []) (fails test says) ∙ append-nil _);
        gone = λ test says.
            ap (λ ids. ids ++ id ∷ []) (so_far.gone test says) ∙ append_assoc before (taken_by test (listed 0 (take block old))) (id ∷ [])
            ∙ ap (λ ids. before ++ ids) (sym (ap (taken_by test) old_next' ∙ taken_by-more test (listed 0 (take block old)) ((id, cell.kind) ∷ []) ∙ ap (λ t. taken_by test (listed 0 (take block old)) ++ keys_of (cond (not t) ((id, cell.kind) ∷ []) [])) (fails test says)));
      }

  -- a filled cell is counted
  pub one_at_least : (cell : Cell) → get_or now block None ≡ Some cell → block < length now → 1 ≤ count
  one_at_least cell some inside =
      let less = length-set_listed 0 now block None inside in
      let one = ap count_here some in
      let counted = so_far.table.counted in
      omega arith

  -- past the last cell the pass is done
  pub IsTaken-all_kept : length old ≤ block → (test : ℕ → Bool) → Says test → listed 0 now ≡ kept_by test (listed 0 old)
  IsTaken-all_kept past test says =
      ap (listed 0) (sym (take_all block now (omega (arith, so_far.size)))) ∙ so_far.kept test says ∙ ap (λ cells. kept_by test (listed 0 cells)) (take_all block old past)

  pub IsTaken-all_gone : length old ≤ block → (test : ℕ → Bool) → Says test → after ≡ before ++ taken_by test (listed 0 old)
  IsTaken-all_gone past test says = so_far.gone test says ∙ ap (λ cells. before ++ taken_by test (listed 0 cells)) (take_all block old past)
