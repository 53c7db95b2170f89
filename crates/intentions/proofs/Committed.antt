-- The images of a commit: with the bit, and with the root copied.
use Rattle.std.proofs.Common.{◌≡◌, ◌≢◌, inl, inr, ℕ, List, [], length, length-set, set, Result, Some, refl, sym, ◌∙◌, ap, subst}
use Rattle.intentions.proofs.Words.{Carries, ChangesBit, Commits, Copies, Ghosts, Graph, Held, Holds, Image, IsCommitted, IsDraft, IsPlaced, IsSettled, IsToFinish, IsTree, Leaves, MapEntry, Object, OnOk, Puid, ReadsAs, Root, SameAt, Settles, Tree, Trouble, Written, below_apart, block_at, with_commit_bit, committed_holds, copied_holds, entry_in, entry_in-set, entry_in-with_entry_other, entry_in_table, first_or, get_or-set_other, get_or-set_same, hold_fewer, in_image, left_now, not_map, object_at, part_of, read_by, root_placed, same_Some, same_or_not, same_shadows, same_tree, settles_begins, shadow_taken, sight, source, stands_for, taken_apart, tree_in, wider, with_bit, with_bit_at, with_entry, with_object}
use Rattle.intentions.proofs.Changes.{on_ok}
use Rattle.intentions.proofs.Courses.{put_again}
use Rattle.intentions.proofs.Valid.{bit_valid}
pub use Rattle.vol_owners.proofs.Keys.{object_at_put}

-- ---- the bit

module _ (a : Image) (g : Graph) (id : Puid) (was o : Object) (e : MapEntry) (s : ℕ) (holds : Holds a g) (at : object_at g id ≡ Some was) (here : entry_in a id.block ≡ Some e) (draft : IsDraft a id.block s o) where
  root_is : IsPlaced a id.block id.block Root
  root_is = root_placed a (length a) id was (holds.objects id was at)

  place_is : e.place ≡ Some Root
  place_is = ap (λ (x : MapEntry). x.place) (same_Some _ _ (sym here ∙ root_is.taken.here)) ∙ root_is.place_is

  with_bit_is : with_bit e ≡ with_commit_bit e
  with_bit_is = ap (λ p. with_bit_at p e) place_is

  pub commits : Commits a (with_entry a id.block (with_bit e)) g id o s
  commits =
      let valid = bit_valid e place_is (entry_in_table a id.block e here) in
      let reads = read_by a g id was e holds at here valid s o draft in
      subst (λ (x : MapEntry). Commits a (with_entry a id.block x) g id o s) (sym with_bit_is)
      (record {
        committed = record {
          holds = committed_holds a g id was e holds at here valid s o draft;
          at = object_at_put g id o;
          source_is = reads.source_is;
          alone = λ n stands. draft.alone n (sym (reads.stands n) ∙ stands);
          stands = reads.stands s ∙ draft.stands;
        };
        tree = reads.tree;
        entries = λ n other. entry_in-with_entry_other a id.block (with_commit_bit e) e n here other;
      })

-- ---- the copy

module _ (c : Image) (g : Graph) (id : Puid) (o : Object) (s : ℕ) (is : IsCommitted c g id o s) where
  abbrev copy : Image
  copy = set c id.block (block_at c s)

  seen : ReadsAs (length c) id (sight c id.block) o
  seen = is.holds.objects id o is.at

  on_root : IsPlaced c id.block id.block Root
  on_root = root_placed c (length c) id o seen

  entry_same : (n : ℕ) → entry_in (set c id.block (block_at c s)) n ≡ entry_in c n
  entry_same n = entry_in-set c id.block (block_at c s) n (not_map id.block (taken_apart c g is.holds id.block id.block on_root.taken))

  stands_same : (n : ℕ) → stands_for id.block (entry_in (set c id.block (block_at c s)) n) ≡ stands_for id.block (entry_in c n)
  stands_same n = ap (stands_for id.block) (entry_same n)

  root_there : block_at (set c id.block (block_at c s)) id.block ≡ block_at c s
  root_there = get_or-set_same c id.block (block_at c s) [] (in_image c g is.holds id.block on_root.taken.is on_root.taken.here)

  shadow_there : block_at (set c id.block (block_at c s)) s ≡ block_at c s
  shadow_there = elim (same_or_not s id.block) [
    | inl same ↦ ap (block_at (set c id.block (block_at c s))) same ∙ root_there
    | inr apart ↦ get_or-set_other c id.block s (block_at c s) [] apart
  ]

  source_same : source (set c id.block (block_at c s)) id.block ≡ s
  source_same =
      ap (first_or id.block) (same_shadows c copy id.block (length-set c id.block (block_at c s)) (ap part_of (entry_same id.block)) (λ bit n. stands_same n))
      ∙ is.source_is

  copy_holds : Holds (set c id.block (block_at c s)) g
  copy_holds =
      hold_fewer copy (with_object g id o) g
      (subst (λ (n : ℕ). Holds (set c id.block (block_at c n)) (with_object g id o)) is.source_is (copied_holds c g id o is.holds is.at)) refl (put_again g id o is.at)

  tree_is : IsTree (length c) id.block (tree_in c (block_at c s)) seen.source o
  unfolding sight
  tree_is = subst (λ (n : ℕ). IsTree (length c) id.block (tree_in c (block_at c n)) seen.source o) is.source_is seen.tree

  below_same : (path : List ℕ) (h : Held) → (tree_in c (block_at c s)).below path ≡ Some h → SameAt c (set c id.block (block_at c s)) h.block
  below_same path h v = record {
    part = ap part_of (entry_same h.block);
    content = get_or-set_other c id.block h.block (block_at c s) [] (below_apart c (length c) id.block (block_at c s) seen.source o tree_is on_root path h v);
  }

  pub copies : Copies c (set c id.block (block_at c s)) g id o s
  copies = record {
    committed = record {
      holds = copy_holds;
      at = is.at;
      source_is = source_same;
      alone = λ n stands. is.alone n (sym (stands_same n) ∙ stands);
      stands = stands_same s ∙ is.stands;
    };
    copied = record {
      holds = copy_holds;
      at = is.at;
      copied = ap (block_at copy) source_same ∙ shadow_there ∙ sym root_there;
      apart = taken_apart c g is.holds s id.block (shadow_taken c id.block s is.stands).taken;
    };
    tree = ap (tree_in copy) root_there ∙ same_tree c copy (block_at c s) below_same;
    entries = entry_same;
  }

-- from here on it may settle
pub copied_settles : (a c : Image) (g : Graph) (id : Puid) (o : Object) (s : ℕ) → Copies a c g id o s → Settles c g id s c
copied_settles a c g id o s is =
    settles_begins c g id o s is.committed.holds is.committed.at (ap (block_at c) (sym is.committed.source_is) ∙ is.copied.copied) is.committed.alone

-- what was to be finished still is
pub still_to_finish : (a c k : Image) (g : Graph) (id : Puid) (was o : Object) (s n : ℕ) → Holds a g → object_at g id ≡ Some was → Commits a c g id o s → Copies c k (with_object g id o) id o s → IsToFinish a id.block (block_at a s) n → IsToFinish k id.block (block_at k id.block) n
still_to_finish a c k g id was o s n holds at bit copy to =
    let root = root_placed a (length a) id was (holds.objects id was at) in
    let apart : n ≢ id.block = λ same. to.no_root (ap (λ (x : MapEntry). x.place) (same_Some _ _ (sym to.taken.here ∙ ap (entry_in a) same ∙ root.taken.here)) ∙ root.place_is) in
    record {
      taken = record { is = to.taken.is; here = copy.entries n ∙ bit.entries n apart ∙ to.taken.here; taken = to.taken.taken; placed = to.taken.placed; owned = to.taken.owned };
      no_root = to.no_root;
      no_shadow = to.no_shadow;
      gone = λ leaves path h v. to.gone leaves path h (ap (λ (t : Tree). t.below path) (sym (copy.tree ∙ bit.tree)) ∙ v);
    }

-- ---- the calls

module _ {D : Type 0} (g : Ghosts D) (old new : D) (graph : Graph) (id : Puid) where
  pub commits_by : {A : Type 0} (result : Result A Trouble) (was o : Object) (s : ℕ) → ChangesBit g id.block (λ e. with_bit e) old new result → Carries g graph old → object_at graph id ≡ Some was → IsDraft (g.content old) id.block s o
      → OnOk result (Commits (g.content old) (g.content new) graph id o s) × Leaves g old new (λ c. Holds c (with_object graph id o))
  commits_by result was o s bit run at draft =
      let root = root_placed (g.content old) (length (g.content old)) id was (run.holds.objects id was at) in
      let e = root.taken.is in
      let done = commits (g.content old) graph id was o e s run.holds at root.taken.here draft in (
        on_ok result bit.put (λ put. subst (λ (c : Image). Commits (g.content old) c graph id o s) (sym (put run.tells e root.taken.here)) done),
        wider g old new (λ c. c ≡ with_entry (g.content old) id.block (with_bit e)) (λ c. Holds c (with_object graph id o)) (bit.images run.tells e root.taken.here)
            (λ c is. subst (λ (i : Image). Holds i (with_object graph id o)) (sym is) done.committed.holds),
      )

  module _ (r s : ℕ) (o : Object) (same : id.block ≡ r) (settled : IsSettled g old) (is : IsCommitted (g.content old) graph id o s) where
    copy_is : set (g.content old) id.block (block_at (g.content old) s) ≡ set (g.content old) r (block_at (g.content old) s)
    copy_is = ap (λ (n : ℕ). set (g.content old) n (block_at (g.content old) s)) same

    pub copies_by : g.content new ≡ set (g.content old) r (block_at (g.content old) s) → Copies (g.content old) (g.content new) graph id o s
    copies_by wrote = subst (λ (c : Image). Copies (g.content old) c graph id o s) (copy_is ∙ sym wrote) (copies (g.content old) graph id o s is)

    pub copy_holds_by : Leaves g old new (Written (left_now g old) r (block_at (g.content old) s)) → Leaves g old new (λ c. Holds c graph)
    copy_holds_by images = wider g old new (Written (left_now g old) r (block_at (g.content old) s)) (λ c. Holds c graph) images
        (λ c w. subst (λ (i : Image). Holds i graph) (copy_is ∙ sym (w.2 ∙ ap (λ (i : Image). set i r (block_at (g.content old) s)) (settled.only w.0 w.1))) (copies (g.content old) graph id o s is).committed.holds)
