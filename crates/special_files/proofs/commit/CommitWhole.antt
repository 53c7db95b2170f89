-- The images of a commit, one after another.
use Rattle.std.proofs.Common.{◌≡◌, ◌≢◌, inl, inr, ℕ, ◌%◌, Bool, true, false, List, [], ◌∷◌, ◌++◌, length, set, Option, Some, None, refl, sym, ◌∙◌, ap, subst}
use Rattle.special_files.proofs.Words.{Commits, Copies, ClearBit, Course, Finish, Frame, Free, Graph, Holds, Image, IntendAllocate, IntendDeallocate, IsDraft, IsEntry, IsOn, IsOpenTo, IsPlaced, IsReady, IsRootBlock, IsTaken, IsToFinish, IsTree, MapEntry, MayPut, MayTurn, Object, Place, Puid, Release, Root, Settling, ShadowRoot, StandsIn, Tree, bit_valid, block_at, changed_entry, changed_if, commits, copied_settles, copies, entry_in, entry_in-with_entry_same, entry_in_table, false_from_ne_true, false≢true, frames_begin, frames_hold, has_number, is_had, is_inner, is_meant_for, is_owned_by, is_taken, levels_of, may_finish, may_finish_made, may_release, may_undo, ne_eqb, not_map, of_owners, option_to_list, part_at, part_of, place_inner, released, released_keeps, root_placed, same_Some, same_tree, shadow_taken, sight, stands_for, still_to_finish, taken_apart, taken_of, tree_in, tree_placed, turned, with_bit, with_bit_at, with_commit_bit, with_entry, with_object, without_bit, ◌==◌}
use Rattle.std.proofs.lemmas.Bool.{eq-eqb}
use Rattle.block_tree.specs.declared.root.Root as roots
use Rattle.cyl_alloc.specs.Left.{LeftCommit}
use Rattle.intentions.proofs.Drafts.{owners_open}
use Rattle.cyl_map.proofs.Mapped.{mapped_by, mapped_stays}
use Rattle.intentions.proofs.Settled.{settled_is, settled_on, settled_stays}
use Rattle.intentions.proofs.Turned.{first_number, has_either, has_first, has_second, more_numbers, option_has, option_is, turned_is, turned_on, whole_on}
use Rattle.intentions.specs.Left.{AreOpen, how_for, how_left, settled}
use Rattle.cyl_map.specs.Mapped.{AreWhole, IsMapped, mapped}
use Rattle.special_files.proofs.Begun.{own_tree}
use Rattle.special_files.proofs.commit.CommitEntries.{dropped_state}
use Rattle.special_files.proofs.commit.CommitRoles.{stands_block}
use Rattle.special_files.proofs.Made.{IsNewRoot, made_apart, made_meant, made_root}
use Rattle.special_files.proofs.Meant.{meant_is}

-- ---- nodes and leaves

-- a block of the owner that is no root and no shadow root
pub record IsInner (a : Image) (r n : ℕ) : Type 0 where
  pub taken : IsTaken a n r
  pub no_root : taken.is.place ≢ Some Root
  pub no_shadow : taken.is.place ≢ Some ShadowRoot

pub tree_inner : (a : Image) (size r : ℕ) (content : List ℕ) (root : roots.Root) (o : Object) → IsTree size r (tree_in a content) root o → (n : ℕ) → StandsIn (tree_in a content) n → IsInner a r n
tree_inner a size r content root o fits n at =
    let p = tree_placed a size r content root o fits at.path at.held at.there in
    let not : (q : Place) → is_inner q ≡ false → p.taken.is.place ≢ Some q = λ q outer same.
    absurd (false≢true (sym outer ∙ ap is_inner (same_Some _ _ (sym same ∙ p.place_is)) ∙ place_inner (levels_of content) at.path)) in
    subst (IsInner a r) at.is (record { taken = p.taken; no_root = not Root refl; no_shadow = not ShadowRoot refl })

-- what is left of a commit: a block that is taken, one that is dropped, the root of an object that is made, the shadow root
pub data LeftPart (s : ℕ) (taken dropped : List ℕ) (created : Option ℕ) (m : ℕ) : Type 0 where
  Taken : has_number m taken ≡ true → LeftPart s taken dropped created m
  Dropped : has_number m dropped ≡ true → LeftPart s taken dropped created m
  Entered : created ≡ Some m → LeftPart s taken dropped created m
  Shadow : m ≡ s → LeftPart s taken dropped created m

-- all but the shadow root are finished
abbrev pub is_shadow : {s : ℕ} {taken dropped : List ℕ} {created : Option ℕ} {m : ℕ} → LeftPart s taken dropped created m → Bool
is_shadow (Taken is) = false
is_shadow (Dropped is) = false
is_shadow (Entered is) = false
is_shadow (Shadow is) = true

module _ {a : Image} {g : Graph} {id : Puid} {was o : Object} {s : ℕ} {taken dropped : List ℕ} {created : Option ℕ} (ready : IsReady a g id was o s taken dropped created) where
  abbrev r : ℕ
  r = id.block

  abbrev pub after : Graph
  after = with_object g id o

  pub root : IsPlaced a id.block id.block Root
  root = root_placed a (length a) id was (ready.holds.objects id was ready.at)

  pub shadow : IsPlaced a s id.block ShadowRoot
  shadow = shadow_taken a id.block s ready.draft.stands

  pub new_inner : (n : ℕ) → StandsIn (tree_in a (block_at a s)) n → IsInner a id.block n
  new_inner n at = tree_inner a (length a) id.block (block_at a s) ready.draft.shadow o ready.draft.tree n at

  own_inner : (n : ℕ) → StandsIn (tree_in a (block_at a id.block)) n → IsInner a id.block n
  unfolding sight
  own_inner n at =
      let own = (ready.holds.objects id was ready.at).root in
      let is = (ready.holds.objects id was ready.at).spelled in
      tree_inner a (length a) id.block (block_at a id.block) own was (subst (λ (c : List ℕ). IsTree (length a) id.block (tree_in a c) own was) (sym is.spelled) (own_tree a (length a) id own was ready.has (ready.holds.objects id was ready.at) is)) n at

  -- different blocks
  pub inner_root : (n : ℕ) → IsInner a id.block n → n ≢ id.block
  inner_root n is same = is.no_root (ap (λ (e : MapEntry). e.place) (same_Some _ _ (sym is.taken.here ∙ ap (entry_in a) same ∙ root.taken.here)) ∙ root.place_is)

  pub inner_shadow : (n : ℕ) → IsInner a id.block n → n ≢ s
  inner_shadow n is same = is.no_shadow (ap (λ (e : MapEntry). e.place) (same_Some _ _ (sym is.taken.here ∙ ap (entry_in a) same ∙ shadow.taken.here)) ∙ shadow.place_is)

  pub root_shadow : id.block ≢ s
  root_shadow same = let no : Some Root ≡ Some ShadowRoot = sym root.place_is ∙ ap (λ (e : MapEntry). e.place) (same_Some _ _ (sym root.taken.here ∙ ap (entry_in a) same ∙ shadow.taken.here)) ∙ shadow.place_is in cc

  pub taken_inner : (n : ℕ) → has_number n taken ≡ true → IsInner a id.block n
  taken_inner n is = new_inner n (ready.stands n is)

  pub dropped_inner : (n : ℕ) → has_number n dropped ≡ true → IsInner a id.block n
  dropped_inner n is = own_inner n (ready.own n is)

  dropped_had : (n : ℕ) → has_number n dropped ≡ true → is_owned_by is_had id.block (entry_in a n) ≡ true
  dropped_had n is = ready.has.each n (stands_block a id.block ready.has.no_bit n (inr (ready.own n is)))

  pub taken_not_dropped : (n : ℕ) → has_number n taken ≡ true → has_number n dropped ≡ false
  taken_not_dropped n is = false_from_ne_true _ (λ there. ready.gone n there (ready.stands n is))

  pub dropped_not_taken : (n : ℕ) → has_number n dropped ≡ true → has_number n taken ≡ false
  dropped_not_taken n is = false_from_ne_true _ (λ there. ready.gone n is (ready.stands n there))

  -- ---- what is dropped is released

  abbrev pub a1 : Image
  a1 = mapped (turned (λ m. Release) dropped) a

  pub release_may : (h : Graph) → MayTurn (Frame a h) a (λ m. Release) dropped
  release_may h n is =
      let t = (dropped_inner n is).taken in
      (t.is, t.here, may_release a h n t.is (taken_apart a g ready.holds n id.block t) (entry_in_table a n t.is t.here) (ready.holds.own n t.is t.here))

  pub whole : AreWhole a
  whole = whole_on (Frame a g) (λ m. Release) ready.holds a (frames_begin a g ready.holds)

  pub a1_turns : IsMapped (turned (λ m. Release) dropped) a a1
  a1_turns = turned_is (Frame a g) (λ m. Release) ready.holds dropped a (frames_begin a g ready.holds) (release_may g)

  pub a1_block : (m : ℕ) → m % 64 ≢ 0 → block_at a1 m ≡ block_at a m
  a1_block m real = a1_turns.contents m real

  pub a1_holds : Holds a1 g
  a1_holds = frames_hold a a1 g ready.holds (turned_on (Frame a g) (λ m. Release) ready.holds dropped a a1 (frames_begin a g ready.holds) (release_may g) a1_turns)

  -- it keeps its part
  abbrev AreAlike : Option MapEntry → Option MapEntry → Type 0
  AreAlike was now = (part_of now ≡ part_of was) × ((x : ℕ) → stands_for x now ≡ stands_for x was)

  a1_same : (m : ℕ) → AreAlike (entry_in a m) (entry_in a1 m)
  a1_same m = mapped_by AreAlike (turned (λ k. Release) dropped) a a1 whole a1_turns m (refl, λ x. refl) (λ e here. at (has_number m dropped) e (entry_in_table a m e here))
    where
      at : (b : Bool) (e : MapEntry) → IsEntry e → AreAlike (Some e) (Some (changed_if b Release e))
      at false e valid = (refl, λ x. refl)
      at true e valid = (let keeps = released_keeps e valid in (keeps.part, keeps.stands))

  a1_part : (m : ℕ) → part_at a1 m ≡ part_at a m
  a1_part m = (a1_same m).0

  a1_stands : (x m : ℕ) → stands_for x (entry_in a1 m) ≡ stands_for x (entry_in a m)
  a1_stands x m = (a1_same m).1 x

  pub real : (n : ℕ) → IsTaken a n id.block → n % 64 ≢ 0
  real n t = not_map n (taken_apart a g ready.holds n id.block t)

  a1_shadow : block_at a1 s ≡ block_at a s
  a1_shadow = a1_block s (real s shadow.taken)

  pub a1_tree : tree_in a1 (block_at a1 s) ≡ tree_in a (block_at a s)
  a1_tree = ap (tree_in a1) a1_shadow ∙ same_tree a a1 (block_at a s) (λ path h there.
      let p = tree_placed a (length a) id.block (block_at a s) ready.draft.shadow o ready.draft.tree path h there in
      record { part = a1_part h.block; content = a1_block h.block (real h.block p.taken) })

  pub a1_draft : IsDraft a1 id.block s o
  a1_draft = record {
    alone = λ n stands. ready.draft.alone n (sym (a1_stands id.block n) ∙ stands);
    stands = a1_stands id.block s ∙ ready.draft.stands;
    shadow = ready.draft.shadow;
    same = λ root is. ready.draft.same root (subst (λ (c : List ℕ). IsRootBlock c root) (a1_block id.block (real id.block root_taken)) is);
    tree = subst (λ (n : ℕ). IsTree n id.block (tree_in a1 (block_at a1 s)) ready.draft.shadow o) (sym a1_turns.size) (subst (λ (t : Tree). IsTree (length a) id.block t ready.draft.shadow o) (sym a1_tree) ready.draft.tree);
  }
    where
      root_taken : IsTaken a id.block id.block
      root_taken = root.taken

  -- ---- the bit is set, and the root copied

  pub a1_root : IsPlaced a1 id.block id.block Root
  a1_root = root_placed a1 (length a1) id was (a1_holds.objects id was ready.at)

  abbrev pub a2 : Image
  a2 = with_entry a1 id.block (with_bit a1_root.taken.is)

  pub bit : Commits a1 a2 g id o s
  bit = commits a1 g id was o a1_root.taken.is s a1_holds ready.at a1_root.taken.here a1_draft

  abbrev pub a3 : Image
  a3 = set a2 id.block (block_at a2 s)

  pub copy : Copies a2 a3 after id o s
  copy = copies a2 after id o s bit.committed

  abbrev pub course : Course
  course = Settling a3 after id o s

  pub begins : IsOn course a3
  begins = copied_settles a2 a3 after id o s copy

  pub a3_entry : (m : ℕ) → m ≢ id.block → entry_in a3 m ≡ entry_in a1 m
  a3_entry m other = copy.entries m ∙ bit.entries m other

  pub bit_valid_at : IsEntry (with_bit a1_root.taken.is)
  bit_valid_at = subst IsEntry (sym with_bit_is) (bit_valid a1_root.taken.is a1_root.place_is (entry_in_table a1 id.block a1_root.taken.is a1_root.taken.here))
    where
      with_bit_is : with_bit a1_root.taken.is ≡ with_commit_bit a1_root.taken.is
      with_bit_is = ap (λ p. with_bit_at p a1_root.taken.is) a1_root.place_is

  a3_root : entry_in a3 id.block ≡ Some (with_bit a1_root.taken.is)
  a3_root = copy.entries id.block ∙ entry_in-with_entry_same a1 id.block (with_bit a1_root.taken.is) a1_root.taken.is a1_root.taken.here bit_valid_at

  -- ---- what is to be finished

  -- of a block that is dropped, and one that isn't
  pub a1_dropped : (n : ℕ) → (is : has_number n dropped ≡ true) → entry_in a1 n ≡ Some (released (dropped_inner n is).taken.is)
  a1_dropped n is = a1_turns.entries n (dropped_inner n is).taken.is (dropped_inner n is).taken.here ∙ ap (λ (b : Bool). Some (changed_if b Release (dropped_inner n is).taken.is)) is

  pub a1_kept : (n : ℕ) → has_number n dropped ≡ false → entry_in a1 n ≡ entry_in a n
  a1_kept n is = mapped_stays (turned (λ m. Release) dropped) a a1 whole a1_turns n (λ e here. ap (λ (b : Bool). changed_if b Release e) is)

  pub had_entry : (n : ℕ) → (is : has_number n dropped ≡ true) → is_owned_by is_had id.block (Some (dropped_inner n is).taken.is) ≡ true
  had_entry n is = ap (is_owned_by is_had id.block) (sym (dropped_inner n is).taken.here) ∙ dropped_had n is

  pub meant_state : (n : ℕ) (e : MapEntry) → is_meant_for a id.block n ≡ true → entry_in a n ≡ Some e → e.state ≡ IntendAllocate
  meant_state n e meant here = let m = meant_is a id.block n meant in ap (λ (x : MapEntry). x.state) (same_Some _ _ (sym here ∙ m.taken.here)) ∙ m.state

  finish_taken : (n : ℕ) → has_number n taken ≡ true → IsToFinish a1 id.block (block_at a1 s) n
  finish_taken n is =
      let t = taken_inner n is in
      record {
        taken = record { is = t.taken.is; here = a1_kept n (taken_not_dropped n is) ∙ t.taken.here; taken = t.taken.taken; placed = t.taken.placed; owned = t.taken.owned };
        no_root = t.no_root;
        no_shadow = t.no_shadow;
        gone = λ leaves path h there. (let clash : IntendAllocate ≡ IntendDeallocate = sym (meant_state n t.taken.is (ready.meant n is) t.taken.here) ∙ leaves in cc);
      }

  finish_dropped : (n : ℕ) → has_number n dropped ≡ true → IsToFinish a1 id.block (block_at a1 s) n
  finish_dropped n is =
      let t = dropped_inner n is in
      let keeps = released_keeps t.taken.is (entry_in_table a n t.taken.is t.taken.here) in
      let state = dropped_state id.block t.taken.is (had_entry n is) t.no_root t.no_shadow in
      record {
        taken = record { is = released t.taken.is; here = a1_dropped n is; taken = λ free. (let clash : IntendDeallocate ≡ Free = sym state ∙ free in cc); placed = λ none. t.taken.placed (sym keeps.place ∙ none); owned = keeps.owner ∙ t.taken.owned };
        no_root = λ same. t.no_root (sym keeps.place ∙ same);
        no_shadow = λ same. t.no_shadow (sym keeps.place ∙ same);
        gone = λ leaves path h there same. ready.gone n is (record { path = path; held = h; there = ap (λ (x : Tree). x.below path) (sym a1_tree) ∙ there; is = same });
      }

  now_to_finish : (n : ℕ) → IsToFinish a1 id.block (block_at a1 s) n → IsToFinish a3 id.block (block_at a3 id.block) n
  now_to_finish n to = still_to_finish a1 a2 a3 g id was o s n a1_holds ready.at bit copy to

  may_end : (n : ℕ) → IsToFinish a1 id.block (block_at a1 s) n → (e : MapEntry) × (entry_in a3 n ≡ Some e) × MayPut course n e (changed_entry Finish e)
  may_end n to1 = let to = now_to_finish n to1 in (to.taken.is, to.taken.here, may_finish a3 after id o s copy.copied n to to.taken.is (inl refl))

  -- ---- what is left

  abbrev pub rest : List ℕ
  rest = taken ++ (dropped ++ (option_to_list created ++ s ∷ []))

  abbrev pub left : LeftCommit
  left = record { root = id.block; shadow = s; rest = taken ++ (dropped ++ (option_to_list created ++ s ∷ [])); copied = false }

  pub shadow_not_dropped : has_number s dropped ≡ false
  shadow_not_dropped = false_from_ne_true _ (λ there. inner_shadow s (dropped_inner s there) refl)

  pub root_not_dropped : has_number id.block dropped ≡ false
  root_not_dropped = false_from_ne_true _ (λ there. inner_root id.block (dropped_inner id.block there) refl)

  -- the root of an object that is made is none of these
  pub made_root_at : (n : ℕ) → created ≡ Some n → IsNewRoot a n
  made_root_at n is = made_root a ready.holds.own n (ready.made n is)

  pub made_meant_at : (n : ℕ) → created ≡ Some n → is_meant_for a n n ≡ true
  made_meant_at n is = made_meant a ready.holds.own n (ready.made n is)

  pub made_not_root : (n : ℕ) → created ≡ Some n → n ≢ id.block
  made_not_root n is = made_apart a ready.holds.own n (ready.made n is) id.block ready.has

  pub made_not_shadow : (n : ℕ) → created ≡ Some n → n ≢ s
  made_not_shadow n is same =
      let c = (made_root_at n is).at in
      let no : Some Root ≡ Some ShadowRoot = sym c.place_is ∙ ap (λ (e : MapEntry). e.place) (same_Some _ _ (sym c.taken.here ∙ ap (entry_in a) same ∙ shadow.taken.here)) ∙ shadow.place_is in cc

  pub made_not_inner : (n : ℕ) → created ≡ Some n → IsInner a id.block n → ⊥
  made_not_inner n is inner = let c = (made_root_at n is).at in inner.no_root (ap (λ (e : MapEntry). e.place) (same_Some _ _ (sym inner.taken.here ∙ c.taken.here)) ∙ c.place_is)

  pub made_not_dropped : (n : ℕ) → created ≡ Some n → has_number n dropped ≡ false
  made_not_dropped n is = false_from_ne_true _ (λ there. made_not_inner n is (dropped_inner n there))

  abbrev pub Part : ℕ → Type 0
  Part m = LeftPart s taken dropped created m

  pub part_is : (m : ℕ) → has_number m rest ≡ true → Part m
  part_is m there = elim (has_either m taken (dropped ++ (option_to_list created ++ s ∷ [])) there) [
    | inl is ↦ Taken is
    | inr more ↦ elim (has_either m dropped (option_to_list created ++ s ∷ []) more) [
      | inl is ↦ Dropped is
      | inr more ↦ elim (has_either m (option_to_list created) (s ∷ []) more) [
        | inl is ↦ Entered (option_is created m is)
        | inr is ↦ Shadow (sym (same_Some _ _ (option_is (Some s) m is)))
      ]
    ]
  ]

  pub in_rest : (m : ℕ) → Part m → has_number m rest ≡ true
  in_rest m (Taken is) = has_first m taken (dropped ++ (option_to_list created ++ s ∷ [])) is
  in_rest m (Dropped is) = has_second m taken (dropped ++ (option_to_list created ++ s ∷ [])) (has_first m dropped (option_to_list created ++ s ∷ []) is)
  in_rest m (Entered is) = has_second m taken (dropped ++ (option_to_list created ++ s ∷ [])) (has_second m dropped (option_to_list created ++ s ∷ []) (has_first m (option_to_list created) (s ∷ []) (option_has created m is)))
  in_rest m (Shadow is) = has_second m taken (dropped ++ (option_to_list created ++ s ∷ [])) (has_second m dropped (option_to_list created ++ s ∷ []) (has_second m (option_to_list created) (s ∷ []) (subst (λ (k : ℕ). has_number k (s ∷ []) ≡ true) (sym is) (first_number s []))))

  pub shadow_is : (m : ℕ) (p : Part m) → (m == s) ≡ is_shadow p
  shadow_is m (Taken is) = ne_eqb m s (inner_shadow m (taken_inner m is))
  shadow_is m (Dropped is) = ne_eqb m s (inner_shadow m (dropped_inner m is))
  shadow_is m (Entered is) = ne_eqb m s (made_not_shadow m is)
  shadow_is m (Shadow is) = eq-eqb m s is

  pub not_root : (m : ℕ) → Part m → m ≢ id.block
  not_root m (Taken is) = inner_root m (taken_inner m is)
  not_root m (Dropped is) = inner_root m (dropped_inner m is)
  not_root m (Entered is) = made_not_root m is
  not_root m (Shadow is) = λ root_is. root_shadow (sym root_is ∙ is)

  pub root_not_left : has_number id.block rest ≡ false
  root_not_left = false_from_ne_true _ (λ there. not_root id.block (part_is id.block there) refl)

  made_a3 : (n : ℕ) → (is : created ≡ Some n) → entry_in a3 n ≡ Some (made_root_at n is).at.taken.is
  made_a3 n is = a3_entry n (made_not_root n is) ∙ a1_kept n (made_not_dropped n is) ∙ (made_root_at n is).at.taken.here

  a3_shadow : entry_in a3 s ≡ Some shadow.taken.is
  a3_shadow = a3_entry s (λ same. root_shadow (sym same)) ∙ a1_kept s shadow_not_dropped ∙ shadow.taken.here

  may_be : (n : ℕ) → (p : Part n) → (e : MapEntry) × (entry_in a3 n ≡ Some e) × MayPut course n e (changed_entry (how_for (is_shadow p)) e)
  may_be n (Taken is) = may_end n (finish_taken n is)
  may_be n (Dropped is) = may_end n (finish_dropped n is)
  may_be n (Entered is) = (let c = (made_root_at n is).at in (
    c.taken.is,
    made_a3 n is,
    may_finish_made a3 after id o s copy.copied n c.taken.is (entry_in_table a n c.taken.is c.taken.here) c.place_is c.taken.owned
        (λ leaves. (let clash : IntendAllocate ≡ IntendDeallocate = sym (made_root_at n is).state ∙ leaves in cc)) (taken_apart a g ready.holds n n c.taken) (made_not_root n is),
  ))
  may_be n (Shadow is) = subst (λ (k : ℕ). (e : MapEntry) × (entry_in a3 k ≡ Some e) × MayPut course k e (changed_entry (how_for true) e)) (sym is)
      (shadow.taken.is, a3_shadow, may_undo a3 after id o s copy.copied copy.committed.stands shadow.taken.is a3_shadow)

  pub all_may : MayTurn course a3 (how_left left) rest
  all_may n there =
      let p = part_is n there in
      let may = may_be n p in
      (may.0, may.1, subst (λ (b : Bool). MayPut course n may.0 (changed_entry (how_for b) may.0)) (sym (shadow_is n p)) may.2)

  -- each is of the object, or it is the root that is made
  pub all_open : AreOpen (id.block ∷ option_to_list created) a3 rest
  all_open n there = by (part_is n there)
    where
      of_object : IsTaken a3 n id.block → IsOpenTo (λ e. of_owners (id.block ∷ option_to_list created) e) (entry_in a3 n)
      of_object taken = owners_open id.block (id.block ∷ option_to_list created) (entry_in a3 n) (first_number id.block (option_to_list created)) (taken_of a3 n id.block taken)

      by : Part n → IsOpenTo (λ e. of_owners (id.block ∷ option_to_list created) e) (entry_in a3 n)
      by (Taken is) = of_object (now_to_finish n (finish_taken n is)).taken
      by (Dropped is) = of_object (now_to_finish n (finish_dropped n is)).taken
      by (Entered is) = owners_open n (id.block ∷ option_to_list created) (entry_in a3 n) (more_numbers id.block n (option_to_list created) (option_has created n is))
          (ap (is_owned_by is_taken n) (made_a3 n is ∙ sym (made_root_at n is).at.taken.here) ∙ taken_of a n n (made_root_at n is).at.taken)
      by (Shadow is) = of_object (subst (λ (k : ℕ). IsTaken a3 k id.block) (sym is) (shadow_taken a3 id.block s copy.committed.stands).taken)

  -- ---- what is to come

  abbrev pub b4 : Image
  b4 = mapped (settled left) a3

  pub b4_is : IsMapped (settled left) a3 b4
  b4_is = settled_is a3 after id o left refl copy.copied a3 begins all_may

  pub b4_on : IsOn course b4
  b4_on = settled_on a3 after id o left refl copy.copied a3 begins all_may

  pub whole3 : AreWhole a3
  whole3 = whole_on course (how_left left) copy.copied a3 begins

  -- a block of the rest
  pub b4_part : (m : ℕ) (p : Part m) (e : MapEntry) → entry_in a3 m ≡ Some e → entry_in b4 m ≡ Some (changed_entry (how_for (is_shadow p)) e)
  b4_part m p e here = b4_is.entries m e here ∙ (λ i. Some (changed_if (ne_eqb m id.block (not_root m p) i) ClearBit (changed_if (in_rest m p i) (how_for (shadow_is m p i)) e)))

  -- and one that isn't
  pub b4_other : (m : ℕ) → m ≢ id.block → (Part m → ⊥) → entry_in b4 m ≡ entry_in a3 m
  b4_other m other none = mapped_stays (settled left) a3 b4 whole3 b4_is m (λ e here. settled_stays left m e other (false_from_ne_true _ (λ there. none (part_is m there))))

  pub b4_root : entry_in b4 id.block ≡ Some (without_bit (with_bit a1_root.taken.is))
  b4_root = b4_is.entries id.block (with_bit a1_root.taken.is) a3_root ∙ (λ i. Some (changed_if (eq-eqb id.block id.block refl i) ClearBit (changed_if (root_not_left i) (how_left left id.block) (with_bit a1_root.taken.is))))
