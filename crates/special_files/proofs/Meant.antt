-- What the entry of a block says that is meant for an object, and what may be written there.
use Rattle.std.proofs.Common.{◌≡◌, ◌≢◌, inl, inr, ℕ, true, List, [], ◌∷◌, set, Option, Some, None, refl, sym, ◌∙◌, ap, subst}
use Rattle.special_files.proofs.Words.{Accounts, Allocated, BlockState, ChangesOnly, Drafts, Frames, Free, Graph, HasItsBlocks, Holds, Image, IntendAllocate, IntendDeallocate, IsEntry, IsLoose, IsOpenTo, IsTaken, MapEntry, Object, Place, Puid, Root, StandsForNone, and_from, and_parts, at_rest, blocks_kept, both_ways, changes_content, changes_entry, drafts_miss, entry_in, eqb-true, frames_begin, frames_content, free_is_loose, has_number, here, is_free_entry, is_free_in, is_had, is_leaving, is_meant, is_meant_for, is_owned_by, is_some, is_taken, loose_entry, object_at, of_draft, rest_loose, taken_apart, the_entry, with_entry, ◌&&◌, ◌==◌}

-- ---- entries

state_meant : (s : BlockState) → is_meant s ≡ true → s ≡ IntendAllocate
state_meant Free h = cc
state_meant Allocated h = cc
state_meant IntendAllocate h = refl
state_meant IntendDeallocate h = cc

some_place : (p : Option Place) → is_some p ≡ true → p ≢ None
some_place None h = cc
some_place (Some p) h = λ none. cc

pub record IsMeant (image : Image) (r n : ℕ) : Type 0 where
  pub taken : IsTaken image n r
  pub state : taken.is.state ≡ IntendAllocate

pub meant_is : (image : Image) (r n : ℕ) → is_meant_for image r n ≡ true → IsMeant image r n
meant_is image r n meant =
    let e = the_entry is_meant r (entry_in image n) meant in
    let both = and_parts (is_meant e.0.state && is_some e.0.place) (r == e.0.owner) (sym (ap (is_owned_by is_meant r) e.1) ∙ meant) in
    let two = and_parts (is_meant e.0.state) (is_some e.0.place) both.0 in
    let state = state_meant e.0.state two.0 in
    record {
      taken = record { is = e.0; here = e.1; taken = λ free. (let clash : IntendAllocate ≡ Free = sym state ∙ free in cc); placed = some_place e.0.place two.1; owned = sym (eqb-true r e.0.owner both.1) };
      state = state;
    }

pub free_is : (image : Image) (n : ℕ) → is_free_in image n ≡ true → (e : MapEntry) × (entry_in image n ≡ Some e) × (e.state ≡ Free)
free_is image n free = by (entry_in image n) refl free
  where
    state : (s : BlockState) → (e : MapEntry) → e.state ≡ s → is_free_entry (Some e) ≡ true → e.state ≡ Free
    state Free e is h = is
    state Allocated e is h = (let no = sym (ap (λ (t : BlockState). is_free_entry (Some (record e { state = t }))) is) ∙ h in cc)
    state IntendAllocate e is h = (let no = sym (ap (λ (t : BlockState). is_free_entry (Some (record e { state = t }))) is) ∙ h in cc)
    state IntendDeallocate e is h = (let no = sym (ap (λ (t : BlockState). is_free_entry (Some (record e { state = t }))) is) ∙ h in cc)

    by : (o : Option MapEntry) → entry_in image n ≡ o → is_free_entry o ≡ true → (e : MapEntry) × (entry_in image n ≡ Some e) × (e.state ≡ Free)
    by None is h = cc
    by (Some e) is h = (e, is, state e.state e refl h)

-- what a draft means is open to its steps
pub meant_open : (r : ℕ) (entry : Option MapEntry) → is_owned_by is_meant r entry ≡ true → IsOpenTo (λ e. of_draft r e) entry
meant_open r None meant = cc
meant_open r (Some e) meant =
    let both = and_parts (is_meant e.state && is_some e.place) (r == e.owner) meant in
    let two = and_parts (is_meant e.state) (is_some e.place) both.0 in
    inr (and_from _ _ (ap is_taken (state_meant e.state two.0)) two.1, and_from _ _ both.0 (subst (λ (n : ℕ). has_number n (r ∷ []) ≡ true) (eqb-true r e.owner both.1) (here r [])))

-- ---- what may be written while a draft is changed

module _ (a b : Image) (g : Graph) (ds : Drafts) (id : Puid) (o : Object) (had : Accounts a g ds) (at : object_at g id ≡ Some o) (only : ChangesOnly (λ e. of_draft id.block e) a b) where
  pub still_has : (x : Puid) (p : Object) → object_at g x ≡ Some p → HasItsBlocks b x.block
  still_has x p there = blocks_kept (λ e. of_draft id.block e) a b g ds had only x p there (drafts_miss is_had refl (id.block ∷ []) x.block) (drafts_miss is_leaving refl (id.block ∷ []) x.block)

  -- no commit bit stands, so no shadow root is looked at
  pub no_shadow : (e : MapEntry) → StandsForNone b g e
  no_shadow e x p there bit = absurd (both_ways _ (still_has x p there).no_bit bit)

  module _ (holds : Holds b g) where
    pub meant_loose : (n : ℕ) → is_meant_for b id.block n ≡ true → IsLoose b g n
    meant_loose n meant =
        let is = meant_is b id.block n meant in
        rest_loose b g id.block n holds (at_rest b id.block (still_has id o at)) is.taken (λ held. (let clash : IntendAllocate ≡ Allocated = sym is.state ∙ held in cc))

    pub meant_written : (n : ℕ) (block : List ℕ) → is_meant_for b id.block n ≡ true → Frames b g (set b n block)
    meant_written n block meant = frames_content b g b n block (frames_begin b g holds) (meant_loose n meant)

    pub meant_changes : (n : ℕ) (block : List ℕ) → is_meant_for b id.block n ≡ true → ChangesOnly (λ e. of_draft id.block e) b (set b n block)
    meant_changes n block meant =
        changes_content (λ e. of_draft id.block e) b n block holds.maps holds.own (taken_apart b g holds n id.block (meant_is b id.block n meant).taken) (meant_open id.block (entry_in b n) meant)

    module _ (n : ℕ) (e : MapEntry) (free : is_free_in b n ≡ true) (is : IsEntry e) (place : e.place ≢ Some Root) where
      pub claim_framed : Frames b g (with_entry b n e)
      claim_framed =
          let was = free_is b n free in
          loose_entry b g b n e was.0 holds (frames_begin b g holds) (free_is_loose b g holds n was.0 was.1 was.2) was.1 is (λ root. absurd (place root)) (no_shadow e) (no_shadow was.0)

      pub claim_changes : is_owned_by is_meant id.block (Some e) ≡ true → ChangesOnly (λ e. of_draft id.block e) b (with_entry b n e)
      claim_changes meant =
          let was = free_is b n free in
          changes_entry (λ e. of_draft id.block e) b n e was.0 holds.maps holds.own (free_is_loose b g holds n was.0 was.1 was.2).apart was.1 is (λ root. absurd (place root))
          (inl (sym (ap is_free_entry was.1) ∙ free)) (meant_open id.block (Some e) meant)
