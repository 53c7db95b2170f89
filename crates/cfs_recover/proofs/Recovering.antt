-- From what a survey knows of a volume to what recovery makes of it.
use Rattle.std.proofs.Common.{◌≤◌, ◌≡◌, ◌⊎◌, inl, inr, ℕ, ◌+◌, ◌*◌, ◌/◌, ◌%◌, ◌<◌, Bool, true, false, List, length, get_or, Some, refl, sym, ◌∙◌, ap, subst, arith}
use Rattle.cfs_recover.proofs.Words.{Accounts, AreAllCopies, AreCopied, AreCopies, AreCounts, AreKeptFor, AreMapsOf, AreTidied, Copied, CopiesRoots, Ghosts, Graph, HasCopy, Holds, Image, IsClean, IsHeldIn, IsIn, IsNamedCopy, IsRecovered, IsRootBlock, IsSettled, IsSoundAs, IsSurvey, IsSwept, IsTidied, Kept, IsTidying, Kind, Leads, MapEntry, Object, Puid, Root, StandsIn, Survey, Tidies, Tree, Walk, block_at, carries_settled, entries_read, entry_in, free_count, free_in_cylinder, in_image, is_fixed, directory_kind, directory_kind-kinds_in, object_kind, kinds_of, lists, map_of, nat_tests, object_at, object_there, one_root_block, one_root_index, option_map, shadows, source_tree, sight, slice_get, slice_get_within, source, tidied, tree_in, no_drafts}
use Rattle.cfs_recover.proofs.Accounted.{tidied_accounts, tidied_is_clean, tidied_is_swept}
use Rattle.cfs_recover.proofs.InMemory.{entry_is}
use Rattle.cfs_recover.proofs.Keepings.{leads_as, leads_then}
use Rattle.cfs_recover.proofs.Listings.{listed}
use Rattle.cfs_recover.proofs.Noting.{listed_there, there_listed}
use Rattle.cfs_recover.proofs.Taking.{kind_is}
use Rattle.cfs_recover.proofs.Tidyings.{apart, copied_tree, copies_hold, tidies_sound, copies_sound}

map_fixed : (j : ℕ) → is_fixed (64 * j) ≡ true
map_fixed j = grind (arith, nat_tests)

-- a place moves along an equation of trees
stands_on : (one two : Tree) (n : ℕ) → one ≡ two → StandsIn one n → StandsIn two n
stands_on one two n same s = record { path = s.path; held = s.held; there = ap (λ (t : Tree). t.below s.path) (sym same) ∙ s.there; is = s.is }

module _ (a : Image) (s : Survey) (is : IsSurvey a s) where
  abbrev graph : Graph
  graph = is.whole.graph

  abbrev w : Walk
  w = s.walked.walk

  holds : Holds a graph
  holds = is.whole.sound.holds

  -- ---- the roots

  there_lists : (id : Puid) (o : Object) → object_at graph id ≡ Some o → lists w id ≡ true
  there_lists id o at = ap (λ (n : List (Puid × Kind)). listed n id) is.whole.directory ∙ listed_there graph id o at

  lists_there : (id : Puid) → lists w id ≡ true → (o : Object) × (object_at graph id ≡ Some o)
  lists_there id listing = object_there graph id (there_listed graph id (sym (ap (λ (n : List (Puid × Kind)). listed n id) is.whole.directory) ∙ listing))

  abbrev copies : List Copied
  copies = is.walked.kept.0

  abbrev are_copies : AreCopies a w.found.items (length w.found.items) copies
  are_copies = is.walked.kept.1.are

  all_copies : AreAllCopies a graph copies
  all_copies = record {
    each = λ k c at.
        let l = are_copies.listed k c at in
        let f = is.walked.walk.found l.0 l.1 l.2 in
        let there = lists_there f.id f.listed in
        let block : c.block ≡ f.id.block = sym l.3 ∙ f.block in
        record { id = f.id; object = there.0; there = there.1; block = block; spelled = subst (λ (n : ℕ). IsRootBlock (block_at a (source a n)) c.root) block (are_copies.each k c at) };
    all = λ id o at.
        let l = is.walked.walk.listed id (there_lists id o at) in
        elim (are_copies.all l.0 l.1 (slice_get_within w.found.items l.0 l.1 l.2) l.2) [
          | inl own ↦ inl (subst (λ (n : ℕ). source a n ≡ n) l.3 own)
          | inr has ↦ inr (subst (λ (n : ℕ). HasCopy copies n) l.3 has)
        ];
  }

  -- the directory has each with its kind and its word
  named_copy : (k : ℕ) (c : Copied) → slice_get copies k ≡ Some c → IsNamedCopy s.walked c
  unfolding sight
  named_copy k c at =
      let copy = all_copies.each k c at in
      let reads = holds.objects copy.id copy.object copy.there in
      let root : c.root ≡ reads.source = one_root_block (block_at a (source a copy.id.block)) c.root reads.source copy.spelled reads.tree.spelled in
      let word : c.root.word ≡ copy.id.word = ap (λ (r : Root). r.word) root ∙ reads.same_word ∙ reads.word in
      let kind : object_kind copy.object ≡ c.root.kind = ap object_kind (sym reads.tree.object) ∙ kind_is reads.source _ ∙ ap (λ (r : Root). r.kind) (sym root) in
      record {
        good = copy.spelled.good;
        named = ap (λ (n : List (Puid × Kind)). directory_kind n (record { block = c.block; word = c.root.word })) is.whole.directory
            ∙ ap (directory_kind (kinds_of graph)) (λ i. record { block = copy.block i; word = word i })
            ∙ directory_kind-kinds_in graph.objects copy.id ∙ ap (option_map object_kind) copy.there ∙ ap Some kind;
      }

  one_shadow : (id : Puid) (o : Object) → object_at graph id ≡ Some o → length (shadows a id.block) ≤ 1
  unfolding sight
  one_shadow id o at = (holds.objects id o at).one_shadow

  pub kept_for : AreKeptFor a graph s.grounds.maps.items s.walked copies
  kept_for = record {
    all = all_copies;
    kept = is.walked.kept.1;
    named = named_copy;
    shown = λ k x at.
        let f = is.walked.walk.found k x at in
        let there = lists_there f.id f.listed in
        record { maps_are = is.maps; standing = is.walked.standing; one_shadow = subst (λ (n : ℕ). length (shadows a n) ≤ 1) (sym f.block) (one_shadow f.id there.0 there.1) };
  }

  -- ---- the maps, once the roots are copied

  module _ (b : Image) (roots : CopiesRoots a graph b) (copied : AreCopied b graph) where
    holds_b : Holds b graph
    holds_b = copies_hold a graph b holds roots

    pub map_kept : (j : ℕ) → block_at b (64 * j) ≡ block_at a (64 * j)
    map_kept j = apart a graph b holds roots (64 * j) (map_fixed j)

    pub maps_b : AreMapsOf b s.grounds.maps.items
    maps_b = record {
      size = roots.size ∙ is.maps.size;
      map = is.maps.map;
      spelled = λ j less. map_kept j ∙ is.maps.spelled j less;
    }

    tree_b : (id : Puid) (o : Object) → object_at graph id ≡ Some o → tree_in b (block_at b id.block) ≡ source_tree a id.block
    tree_b id o at = ap (tree_in b) (sym (copied id o at)) ∙ copied_tree a graph b holds roots id o at

    abbrev marks : ℕ → Bool
    marks n = get_or w.held.items n false

    in_b : (n : ℕ) → IsIn a graph n → IsHeldIn b graph n
    in_b n i = record {
      id = i.id;
      object = i.object;
      there = i.there;
      here = elim i.here [
        | inl root ↦ inl root
        | inr inner ↦ inr (stands_on (source_tree a i.id.block) (tree_in b (block_at b i.id.block)) n (sym (tree_b i.id i.object i.there)) inner)
      ];
    }

    from_b : (n : ℕ) (id : Puid) (o : Object) → object_at graph id ≡ Some o → (n ≡ id.block) ⊎ StandsIn (tree_in b (block_at b id.block)) n → marks n ≡ true
    from_b n id o at here = is.whole.all n (record {
      id = id;
      object = o;
      there = at;
      here = elim here [
        | inl root ↦ inl root
        | inr inner ↦ inr (stands_on (tree_in b (block_at b id.block)) (source_tree a id.block) n (tree_b id o at) inner)
      ];
    })

    pub tidying : IsTidying b graph w.held.items
    tidying = record {
      holds = holds_b;
      copied = copied;
      marked = record {
        root = λ id o at. from_b id.block id o at (inl refl);
        inner = λ id o path h at v. from_b h.block id o at (inr (record { path = path; held = h; there = v; is = refl }));
      };
    }

    -- ---- and once these are tidied

    module _ (c : Image) (tidies : Tidies b graph c) (kept : Kept) (done : AreTidied c s.grounds.maps.items w.held.items kept.free (length s.grounds.maps.items)) where
      entries : (n : ℕ) (e : MapEntry) → entry_in b n ≡ Some e → entry_in c n ≡ Some (tidied (is_fixed n) (marks n) e)
      unfolding entry_in
      entries n e here =
          let below = in_image b graph holds_b n e here in
          let less : n / 64 < length s.grounds.maps.items = omega (arith, maps_b.size, below) in
          let t = done (n / 64) less in
          let whole : 64 * (n / 64) + n % 64 ≡ n = omega arith in
          entries_read (block_at c (map_of n)) t.tidy t.tidied.whole t.spelled (n % 64) (omega arith)
          ∙ t.tidied.entries (n % 64) e (omega arith) (sym (entry_is b s.grounds.maps.items maps_b n below) ∙ here)
          ∙ (λ i. Some (tidied (is_fixed (whole i)) (marks (whole i)) e))

      is_tidied : IsTidied b graph marks c
      is_tidied = record { entries = entries; only = λ n is_held. in_b n (is.whole.held n is_held); all = from_b }

      counts : length kept.free ≡ length s.grounds.maps.items → AreCounts c kept
      counts size = record {
        size = omega (arith, tidies.size, maps_b.size, size);
        each = λ j less.
            let t = done j (omega (arith, less, size)) in
            let at : map_of (64 * j) ≡ 64 * j = omega arith in
            t.free ∙ free_count c (64 * j) t.tidy (record { is_map = t.tidied.whole; spelled = ap (block_at c) at ∙ t.spelled }) ∙ ap (free_in_cylinder c) (omega arith);
      }

      sound_c : IsSoundAs c graph
      sound_c = tidies_sound b graph c (copies_sound a graph b is.whole.sound roots) copied tidies

      label_is : block_at c 1 ≡ block_at a 1
      label_is = tidies.content 1 (omega arith) ∙ apart a graph b holds roots 1 refl

      pub recovers : {D : Type 0} (g : Ghosts D) (d : D) → IsSettled g d → g.content d ≡ c → length c ≡ g.blocks d → length kept.free ≡ length s.grounds.maps.items
          → IsRecovered g a d s.grounds.label w.directory kept
      recovers g d settled same sized size =
          let sound = subst (λ (i : Image). IsSoundAs i graph) (sym same) sound_c in
          let clean = tidied_is_clean b c graph marks holds_b copied tidies is_tidied in
          record {
            graph = graph;
            was = is.whole.sound;
            sound = sound;
            settled = settled;
            clean = subst (λ (i : Image). IsClean i graph) (sym same) clean;
            labelled = record { is_label = is.grounds.has.is_label; spelled = ap (λ (i : Image). block_at i 1) same ∙ label_is ∙ is.grounds.has.spelled };
            root = one_root_index (length a) graph.root s.grounds.label.root (block_at a 1) holds.label
                (record { label = s.grounds.label; is_label = is.grounds.has.is_label; spelled = is.grounds.has.spelled; size_is = is.grounds.size; root_is = refl });
            size = omega (arith, is.grounds.size, roots.size, tidies.size, sized);
            named = is.whole.directory;
            room = omega (arith, is.walked.walk.room, roots.size, tidies.size, sized);
            carries = carries_settled g graph d settled sound.holds;
            account = subst (λ (i : Image). Accounts i graph no_drafts) (sym same) (tidied_accounts b c graph marks holds_b copied tidies is_tidied);
            swept = subst (λ (i : Image). IsSwept i graph) (sym same) (tidied_is_swept b c graph marks holds_b copied tidies is_tidied);
            counts = subst (λ (i : Image). AreCounts i kept) (sym same) (counts size);
            ordered = is.whole.ordered;
          }

    -- ---- images on the way: while the maps are written
    pub tidies_lead : {D : Type 0} (g : Ghosts D) (start mid new : D) → Leads g (CopiesRoots a graph) start mid → Leads g (Tidies b graph) mid new → Leads g (λ c. IsSoundAs c graph) start new
    tidies_lead g start mid new first second = leads_then g (λ c. IsSoundAs c graph) start mid new (Tidies b graph)
        (leads_as g (CopiesRoots a graph) (λ c. IsSoundAs c graph) start mid (λ c were. copies_sound a graph c is.whole.sound were) first) second
        (λ c were. tidies_sound b graph c (copies_sound a graph b is.whole.sound roots) copied were)

  -- while the roots are
  pub roots_lead : {D : Type 0} (g : Ghosts D) (start now : D) → Leads g (CopiesRoots a graph) start now → Leads g (λ c. IsSoundAs c graph) start now
  roots_lead g start now = leads_as g (CopiesRoots a graph) (λ c. IsSoundAs c graph) start now (λ c were. copies_sound a graph c is.whole.sound were)
