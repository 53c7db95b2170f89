-- Which intentions may be carried out or taken back on a course.
use Rattle.std.proofs.Common.{◌≡◌, ◌≢◌, inl, inr, ℕ, List, [], ◌∷◌, length, Bool, true, false, Some, refl, sym, ◌∙◌, ap, subst}
use Rattle.intentions.proofs.Words.{Frame, Free, Graph, Held, Image, IntendDeallocate, IsCopied, IsEntry, IsLoose, IsPlaced, IsTaken, IsToFinish, IsTree, MapEntry, MayPut, MaySettle, Object, OrFinished, OwnsItself, Place, Puid, ReadsAs, Root, Settles, ShadowRoot, StandsForNone, below_apart, block_at, entry_in, entry_in_table, false≢true, finished, intended, is_fixed, is_inner, levels_of, object_at, other_is, owned_is_loose, part_of, place_at, place_inner, placed, released, root_placed, same_Some, same_block, same_puid, same_puid_itself, shadow_taken, sight, stands_for, taken_apart, taken_part, tree_in, tree_placed, undone, without, without_bit}
use Rattle.intentions.proofs.Valid.{finished_owner, finished_part, finished_place, finished_state, finished_valid, no_bit_valid, no_shadow_stands, other_stands, released_keeps, undone_place, undone_stands, undone_valid}

-- ---- within a frame

module _ (a : Image) (g : Graph) (n : ℕ) (e : MapEntry) where
  -- what the objects hold may be given up
  pub may_release : is_fixed n ≡ false → IsEntry e → OwnsItself n e → MayPut (Frame a g) n e (released e)
  may_release apart valid own =
      let keeps = released_keeps e valid in (
        keeps.valid,
        λ root. keeps.owner ∙ own (sym keeps.place ∙ root),
        record { apart = apart; keeps = λ held. keeps.part; standing = λ x p found bit. keeps.stands x.block },
      )

  -- a block that no object holds may be claimed, and given back
  module _ (loose : IsLoose a g n) (before : StandsForNone a g e) where
    pub may_claim : (place : Place) (owner : ℕ) → IsEntry (intended place owner) → OwnsItself n (intended place owner) → StandsForNone a g (intended place owner) → MayPut (Frame a g) n e (intended place owner)
    may_claim place owner valid own after = (
      valid,
      own,
      record {
        apart = loose.apart;
        keeps = λ held. absurd (loose.unheld held);
        standing = λ x p found bit. after x p found bit ∙ sym (before x p found bit);
      },
    )

    pub may_take_back : IsEntry e → e.place ≢ Some Root → MayPut (Frame a g) n e (undone e)
    may_take_back valid no_root = (
      undone_valid e valid,
      λ root. absurd (undone_place e Root no_root root),
      record {
        apart = loose.apart;
        keeps = λ held. absurd (loose.unheld held);
        standing = λ x p found bit. undone_stands x.block e ∙ sym (before x p found bit);
      },
    )

-- ---- while an object settles

module _ (c : Image) (g : Graph) (id : Puid) (o : Object) (s : ℕ) (is : IsCopied c g id o s) where
  seen : ReadsAs (length c) id (sight c id.block) o
  seen = is.holds.objects id o is.at

  at_root : IsPlaced c id.block id.block Root
  at_root = root_placed c (length c) id o seen

  tree_is : IsTree (length c) id.block (tree_in c (block_at c id.block)) seen.source o
  unfolding sight
  tree_is = subst (λ (x : List ℕ). IsTree (length c) id.block (tree_in c x) seen.source o) is.copied seen.tree

  -- a block of another place than a root's is not the root
  not_the_root : (n owner : ℕ) (taken : IsTaken c n owner) → taken.is.place ≢ Some Root → n ≢ id.block
  not_the_root n owner taken other same =
      other (ap (λ (e : MapEntry). e.place) (same_Some _ _ (sym taken.here ∙ ap (entry_in c) same ∙ at_root.taken.here)) ∙ at_root.place_is)

  other_block : (x : Puid) (p : Object) → object_at (without g (id ∷ [])) x ≡ Some p → id.block ≢ x.block
  other_block x p found same =
      let other = other_is g id x p found in
      let one = same_block c (length c) id x o p seen (is.holds.objects x p other.0) same in
      let no : true ≡ false = sym (same_puid_itself id) ∙ ap (λ (y : Puid). same_puid y id) one ∙ other.1 in cc

  -- ---- nodes and leaves

  module _ (n : ℕ) (to : IsToFinish c id.block (block_at c id.block) n) where
    place_now : (old : MapEntry) → OrFinished to.taken.is old → (p : Place) → to.taken.is.place ≢ Some p → old.place ≢ Some p
    place_now old (inl same) p other = subst (λ (x : MapEntry). x.place ≢ Some p) (sym same) other
    place_now old (inr same) p other = subst (λ (x : MapEntry). x.place ≢ Some p) (sym same) (finished_place to.taken.is p other)

    -- what the object's tree holds isn't to be given up
    state_now : (old : MapEntry) → OrFinished to.taken.is old → (path : List ℕ) (h : Held) → (tree_in c (block_at c id.block)).below path ≡ Some h → h.block ≡ n → old.state ≢ IntendDeallocate
    state_now old (inl same) path h v here gives = to.gone (ap (λ (x : MapEntry). x.state) (sym same) ∙ gives) path h v here
    state_now old (inr same) path h v here gives = finished_state to.taken.is (ap (λ (x : MapEntry). x.state) (sym same) ∙ gives)

    valid_now : (old : MapEntry) → OrFinished to.taken.is old → IsEntry old
    valid_now old (inl same) = subst IsEntry (sym same) (entry_in_table c n to.taken.is to.taken.here)
    valid_now old (inr same) = subst IsEntry (sym same) (finished_valid to.taken.is (entry_in_table c n to.taken.is to.taken.here))

    pub may_finish : (old : MapEntry) → OrFinished to.taken.is old → MaySettle c g id s n old (finished old)
    may_finish old now =
        let root = place_now old now Root to.no_root in
        let shadow = place_now old now ShadowRoot to.no_shadow in
        let stands : (r : ℕ) → stands_for r (Some (finished old)) ≡ false = λ r. no_shadow_stands r (finished old) (finished_place old ShadowRoot shadow) in
        record {
          apart = taken_apart c g is.holds n id.block to.taken;
          others = λ held. absurd ((owned_is_loose c g id o is.holds is.at n to.taken).unheld held);
          entry = finished_valid old (valid_now old now);
          itself = λ at. absurd (finished_place old Root root at);
          root = λ same. absurd (not_the_root n id.block to.taken to.no_root same);
          inner = λ path h v same. finished_part old (state_now old now path h v same);
          shadow = λ is_one. absurd (false≢true (sym (stands id.block) ∙ is_one));
          of_others = λ x p found bit. stands x.block;
          of_others_before = λ x p found bit. no_shadow_stands x.block old shadow;
        }

  -- ---- the root of an object that was made with this commit

  pub may_finish_made : (n : ℕ) (old : MapEntry) → IsEntry old → old.place ≡ Some Root → old.owner ≡ n → old.state ≢ IntendDeallocate → is_fixed n ≡ false → n ≢ id.block → MaySettle c g id s n old (finished old)
  may_finish_made n old valid place owner stays apart other =
      let no_shadow : old.place ≢ Some ShadowRoot = λ at. let no : Some Root ≡ Some ShadowRoot = sym place ∙ at in cc in
      let stands : (r : ℕ) → stands_for r (Some (finished old)) ≡ false = λ r. no_shadow_stands r (finished old) (finished_place old ShadowRoot no_shadow) in
      let part = finished_part old stays in
      record {
        apart = apart;
        others = λ held. part;
        entry = finished_valid old valid;
        itself = λ at. finished_owner old stays ∙ owner;
        root = λ same. absurd (other same);
        inner = λ path h v same. part;
        shadow = λ is_one. absurd (false≢true (sym (stands id.block) ∙ is_one));
        of_others = λ x p found bit. stands x.block;
        of_others_before = λ x p found bit. no_shadow_stands x.block old no_shadow;
      }

  -- ---- the shadow root

  module _ (stands : stands_for id.block (entry_in c s) ≡ true) (old : MapEntry) (here : entry_in c s ≡ Some old) where
    shadow_is : IsPlaced c s id.block ShadowRoot
    shadow_is = shadow_taken c id.block s stands

    same_entry : shadow_is.taken.is ≡ old
    same_entry = same_Some _ _ (sym shadow_is.taken.here ∙ here)

    no_root : shadow_is.taken.is.place ≢ Some Root
    no_root at = let no : Some ShadowRoot ≡ Some Root = sym shadow_is.place_is ∙ at in cc

    -- it is none of the tree's blocks
    not_below : (path : List ℕ) (h : Held) → (tree_in c (block_at c id.block)).below path ≡ Some h → h.block ≢ s
    not_below path h v same =
        let placed = tree_placed c (length c) id.block (block_at c id.block) seen.source o tree_is path h v in
        let entries : shadow_is.taken.is ≡ placed.taken.is = same_Some _ _ (sym shadow_is.taken.here ∙ ap (entry_in c) (sym same) ∙ placed.taken.here) in
        let places : ShadowRoot ≡ place_at (levels_of (block_at c id.block)) path = same_Some _ _ (sym shadow_is.place_is ∙ ap (λ (e : MapEntry). e.place) entries ∙ placed.place_is) in
        absurd (false≢true (ap is_inner places ∙ place_inner (levels_of (block_at c id.block)) path))

    pub may_undo : MaySettle c g id s s old (undone old)
    may_undo = record {
      apart = is.apart;
      others = λ held. absurd ((owned_is_loose c g id o is.holds is.at s shadow_is.taken).unheld held);
      entry = undone_valid old (entry_in_table c s old here);
      itself = λ at. absurd (undone_place old Root (subst (λ (x : MapEntry). x.place ≢ Some Root) same_entry no_root) at);
      root = λ same. absurd (not_the_root s id.block shadow_is.taken no_root same);
      inner = λ path h v same. absurd (not_below path h v same);
      shadow = λ is_one. refl;
      of_others = λ x p found bit. undone_stands x.block old;
      of_others_before = λ x p found bit. other_stands x.block old (λ owner. other_block x p found (sym (sym (ap (λ (y : MapEntry). y.owner) same_entry) ∙ shadow_is.taken.owned) ∙ owner));
    }

  -- ---- the bit

  pub may_clear : (b : Image) (old : MapEntry) → Settles c g id s b → entry_in b id.block ≡ Some old → MaySettle c g id s id.block old (without_bit old)
  may_clear b old settles here =
      let now = placed b id.block id.block Root (part_of (entry_in b id.block)) refl settles.part in
      let same : now.taken.is ≡ old = same_Some _ _ (sym now.taken.here ∙ here) in
      let place : old.place ≡ Some Root = ap (λ (x : MapEntry). x.place) (sym same) ∙ now.place_is in
      let owner : old.owner ≡ id.block = ap (λ (x : MapEntry). x.owner) (sym same) ∙ now.taken.owned in
      let no_shadow : old.place ≢ Some ShadowRoot = λ at. let no : Some Root ≡ Some ShadowRoot = sym place ∙ at in cc in
      let stands : (r : ℕ) (bit : Bool) → stands_for r (Some (record old { committed = bit })) ≡ false = λ r bit. no_shadow_stands r (record old { committed = bit }) no_shadow in
      record {
        apart = taken_apart c g is.holds id.block id.block at_root.taken;
        others = λ held. absurd ((owned_is_loose c g id o is.holds is.at id.block at_root.taken).unheld held);
        entry = no_bit_valid old place (entry_in_table b id.block old here);
        itself = λ at. owner;
        root = λ one. record {
          is = record { committed = false; place = old.place; owner = old.owner };
          here = taken_part old.state false old.place old.owner (subst (λ (x : MapEntry). x.state ≢ Free) same now.taken.taken);
          owner_is = owner;
          place_is = place;
        };
        inner = λ path h v one. absurd (below_apart c (length c) id.block (block_at c id.block) seen.source o tree_is at_root path h v one);
        shadow = λ is_one. absurd (false≢true (sym (stands id.block false) ∙ is_one));
        of_others = λ x p found bit. stands x.block false;
        of_others_before = λ x p found bit. no_shadow_stands x.block old no_shadow;
      }
