-- The root of a new object, which is Allocated and written where the least Free block was.
use Rattle.index_drafts.proofs.Words.{◌≡◌, ◌≢◌, ℕ, ◌%◌, ◌<◌, ◌^◌, List, [], length, set, true, false, Some, inl, inr, ⊎_elim, refl, sym, ◌∙◌, ap, subst, arith, eq-eqb, lt-ltb, Accounts, ChangesOnly, Frames, Free, Graph, HasItsBlocks, Image, IsBareRoot, IsClaimed, IsEntered, IsEntry, IsLeastFree, IsLoose, IsOpenTo, IsRootBlock, MapEntry, ReadsAs, StandsForNone, bare_has, bare_object, bare_reads, bare_unmeant, block_at, both_ways, changes_content, changes_entry, changes_then, entry_in, entry_in-set, entry_in-with_entry_other, entry_in-with_entry_same, false_from_ne_true, first_number, frames_begin, free_is, free_is_loose, get_or-set_same, has_block, ids_of, in_image, is_free_entry, is_had, is_owned_by, is_taken, length-with_entry, loose_entry, made_not_free, puid_at, node_pointers, not_map, object_of_block, of_owner, of_taken, owns_nothing, part_of, pointers_of, rises, root_spelling, same_or_not, sight, with_entry, with_object, Drafts, IsMadeBy}
use Rattle.block_tree.specs.declared.root.Root as roots
use Rattle.index_drafts.specs.Creates.{new_root_entry}
use Rattle.special_files.specs.Creates.{IsBare, Spells}
use Rattle.index_drafts.proofs.Added.{object_added}
use Rattle.special_files.proofs.Fresh.{small_image}

module _ (a : Image) (graph : Graph) (ds : Drafts) (had : Accounts a graph ds) (c : ℕ) (least : IsLeastFree a c) (root : roots.Root) where
  abbrev pub entered : Image
  entered = with_entry a c (new_root_entry c)

  abbrev pub written : Image
  written = set entered c (root_spelling root)

  was : (e : MapEntry) × (entry_in a c ≡ Some e) × (e.state ≡ Free)
  was = free_is a c least.free

  pub below : c < length a
  below = in_image a graph had.holds c was.0 was.1

  pub loose : IsLoose a graph c
  loose = free_is_loose a graph had.holds c was.0 was.1 was.2

  real : c % 64 ≢ 0
  real = not_map c loose.apart

  is_entry : IsEntry (new_root_entry c)
  is_entry = record { in_table = rw (lt-ltb 0 c (omega (arith, real)), lt-ltb c (2 ^ 32) (omega (arith, below, small_image a graph had.holds))) refl }

  none_stands : (e : MapEntry) → StandsForNone a graph e
  none_stands e x p found bit = absurd (both_ways _ (had.objects x p found).no_bit bit)

  pub entered_framed : Frames a graph entered
  entered_framed = loose_entry a graph a c (new_root_entry c) was.0 had.holds (frames_begin a graph had.holds) loose was.1 is_entry (λ r. refl) (none_stands (new_root_entry c)) (none_stands was.0)

  entry_here : entry_in written c ≡ Some (new_root_entry c)
  entry_here = entry_in-set entered c (root_spelling root) c real ∙ entry_in-with_entry_same a c (new_root_entry c) was.0 was.1 is_entry

  entry_other : (n : ℕ) → n ≢ c → entry_in written n ≡ entry_in a n
  entry_other n other = entry_in-set entered c (root_spelling root) n real ∙ entry_in-with_entry_other a c (new_root_entry c) was.0 n was.1 other

  block_here : block_at written c ≡ root_spelling root
  block_here = get_or-set_same entered c (root_spelling root) [] (omega (arith, below, length-with_entry a c (new_root_entry c)))

  pub claim : IsClaimed (new_root_entry c) a written
  claim = record { block = c; least = least; here = entry_here; others = entry_other }

  opens : IsOpenTo (λ e. of_owner c e) (Some (new_root_entry c))
  opens = inr (refl, first_number c [])

  pub only : ChangesOnly (λ e. of_owner c e) a written
  only =
      let one = changes_entry (λ e. of_owner c e) a c (new_root_entry c) was.0 had.holds.maps had.holds.own loose.apart was.1 is_entry (λ r. refl) (inl (ap is_free_entry (sym was.1) ∙ least.free)) opens in
      changes_then (λ e. of_owner c e) a entered written one
      (changes_content (λ e. of_owner c e) entered c (root_spelling root) one.maps one.own loose.apart (subst (IsOpenTo (λ e. of_owner c e)) (sym (entry_in-with_entry_same a c (new_root_entry c) was.0 was.1 is_entry)) opens))

  pub fresh : rises (ids_of graph) ≡ true → has_block graph.objects c ≡ false
  fresh ordered = false_from_ne_true _ (λ there.
      let x = object_of_block graph ordered c there in
      both_ways _ (owns_nothing a graph ds had c least.free c) (of_taken is_had refl c (entry_in a c) ((subst (HasItsBlocks a) x.3 (had.objects x.0 x.1 x.2)).each c (inl refl))))

  absent : IsMadeBy ds c → ⊥
  absent there = made_not_free (entry_in a c) (had.made c there).entered least.free

  module _ (bare : IsBare root) (spelled : Spells root) where
    is_bare : IsBareRoot written (puid_at c root.word) root
    is_bare = record {
      part = ap part_of entry_here;
      spelled = subst (λ (x : List ℕ). IsRootBlock x root) (sym block_here) (spelled.spelled bare.good);
      word = refl;
      no_node = ap (pointers_of node_pointers) block_here ∙ sym spelled.nodes ∙ bare.no_node;
    }

    alone : IsEntered written written c
    alone = record {
      had = ap (is_owned_by is_had c) entry_here ∙ eq-eqb c c refl;
      alone = λ n of_c. ⊎_elim (λ is. is) (λ other. absurd (both_ways _ (owns_nothing a graph ds had c least.free n) (ap (is_owned_by is_taken c) (sym (entry_other n other)) ∙ of_c))) (same_or_not n c);
      same = record { part = refl; content = refl };
    }

    -- the object is in the account
    pub account : rises (ids_of graph) ≡ true → Accounts written (with_object graph (puid_at c root.word) (bare_object root)) ds
    account ordered =
        object_added a written graph ds (puid_at c root.word) (bare_object root) had only (fresh ordered)
        (subst (λ (n : ℕ). ReadsAs n (puid_at c root.word) (sight written c) (bare_object root)) only.size (bare_reads written (puid_at c root.word) root is_bare))
        (bare_has written written (puid_at c root.word) root is_bare alone) (bare_unmeant written written (puid_at c root.word) root is_bare alone) absent
