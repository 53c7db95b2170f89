-- A draft whose blocks become Free.
use Rattle.std.proofs.Common.{◌≡◌, ◌≢◌, inl, inr, ⊎_elim, ℕ, Bool, true, false, IsTrue, List, ◌∷◌, ◌++◌, length, Option, Some, None, Ok, Err, refl, sym, ◌∙◌, ap, subst}
use Rattle.special_files.proofs.Words.{AbortEnds, Accounts, AreCounts, AreTaken, BlockState, ChangesOnly, Course, DraftView, Drafting, Drafts, Dropped, Flips, Frame, Ghosts, Graph, HasDraft, Holds, Image, IsMadeRoot, IsOn, IsOpenTo, IsSameDisk, Kept, Leaves, MapEntry, MayPut, MayTurn, Nothing, Object, OnOk, Opened, OwnsNothing, Puid, Result, Root, ShadowRoot, Trouble, Undo, and_from, and_parts, both_ways, carries_framed, cases_Bool, changed_if, changes_begin, content_of, created_if, draft_goes_on, entry_in, entry_in_table, false_from_ne_true, frames_begin, frames_hold, free_unowned, given_all, had_not_meant, has_number, is_damage, is_free_entry, is_free_in, is_meant, is_meant_for, is_owned_by, is_placed, is_taken, keeps_frame, making_ends, may_take_back, no_shadow_stands, not_map, numbers_differ, object_at, of_draft, of_drafts, on_ok, opened_as, option_to_list, owner_is, placed_taken, same_Some, shadow_taken, stands_meant, taken_apart, then, turned, undoing, undone, undone_in, undone_stands, undone_valid, unheld_entry, wider, without_draft}
use Rattle.vol_owners.proofs.Entries.{root_placed}
use Rattle.cyl_map.proofs.Mapped.{mapped_is, mapped_stays}
use Rattle.intentions.proofs.Turned.{first_number, has_either, has_first, has_second, more_numbers, option_has, option_is, turned_is, turned_on, whole_on}
use Rattle.cyl_map.specs.Mapped.{AreWhole, IsMapped, mapped}
use Rattle.special_files.proofs.Begun.{store_still}
use Rattle.special_files.proofs.commit.CommitEntries.{meant_not_free, undone_free}
use Rattle.special_files.proofs.commit.CommitFlips.{counts_given_all, differ_append, given_append, option_once}
use Rattle.special_files.proofs.commit.CommitRoles.{one_owner}
use Rattle.special_files.proofs.Made.{IsNewRoot, draft_made, made_apart, made_meant, made_root}
use Rattle.special_files.proofs.commit.CommitWhole.{tree_inner}
use Rattle.special_files.proofs.Meant.{meant_is, meant_loose, no_shadow}
use Rattle.special_files.proofs.View.{draft_of, view}

module _ (a : Image) (g : Graph) (ds : Drafts) (id : Puid) (o : Object) (k0 : Kept) (d : Opened) (taken : List ℕ) (had : Accounts a g ds) (at : object_at g id ≡ Some o) (alone : ds id ≡ Some d) (draft : HasDraft a id d) (lists : AreTaken a id d taken) where
  abbrev w : Course
  w = Frame a g

  -- the shadow root, if it has one, and the root of an object that was to be made
  abbrev own : List ℕ
  own = option_to_list d.shadow

  abbrev made : List ℕ
  made = option_to_list d.created

  abbrev owners : List ℕ
  owners = id.block ∷ option_to_list d.created

  abbrev pub claims : List ℕ
  claims = undoing taken d.shadow d.created

  -- A block was meant for one of these, and the claim may be taken back.
  record Claimed (n : ℕ) : Type 0 where
    owner : ℕ
    meant : is_meant_for a owner n ≡ true
    among : has_number owner (id.block ∷ option_to_list d.created) ≡ true
    may : (e : MapEntry) → entry_in a n ≡ Some e → MayPut (Frame a g) n e (undone e)

  own_meant : (n : ℕ) → has_number n (option_to_list d.shadow) ≡ true → is_meant_for a id.block n ≡ true
  own_meant n is = stands_meant id.block (entry_in a n) (draft.shadow n (option_is d.shadow n is))

  made_is : (n : ℕ) → has_number n (option_to_list d.created) ≡ true → IsMadeRoot a n
  made_is n there = draft_made a g ds had id d alone n (option_is d.created n there)

  made_at : (n : ℕ) → has_number n (option_to_list d.created) ≡ true → IsNewRoot a n
  made_at n there = made_root a had.holds.own n (made_is n there)

  made_not_meant : (n : ℕ) → has_number n (option_to_list d.created) ≡ true → is_meant_for a id.block n ≡ false
  made_not_meant n there = false_from_ne_true _ (λ meant. made_apart a had.holds.own n (made_is n there) id.block (had.objects id o at) (one_owner is_meant is_meant n id.block (entry_in a n) (made_meant a had.holds.own n (made_is n there)) meant))

  of_object : (n : ℕ) → is_meant_for a id.block n ≡ true → ((e : MapEntry) → entry_in a n ≡ Some e → e.place ≢ Some Root) → Claimed n
  of_object n meant no_root =
      let begun = changes_begin (λ e. of_draft id.block e) a g had.holds in
      record {
        owner = id.block;
        meant = meant;
        among = first_number id.block (option_to_list d.created);
        may = λ e here. may_take_back a g n e (meant_loose a a g ds id o had at begun had.holds n meant) (no_shadow a a g ds id o had at begun e) (entry_in_table a n e here) (no_root e here);
      }

  of_made : (n : ℕ) → has_number n (option_to_list d.created) ≡ true → Claimed n
  of_made n there =
      let root = (made_at n there).at in
      record {
        owner = n;
        meant = made_meant a had.holds.own n (made_is n there);
        among = more_numbers id.block n (option_to_list d.created) there;
        may = λ e here.
            let same : root.taken.is ≡ e = same_Some _ _ (sym root.taken.here ∙ here) in
            let gone : undone e ≡ unheld_entry = ap (λ (s : BlockState). undone_in s e) (ap (λ (x : MapEntry). x.state) (sym same) ∙ (made_at n there).state) in
            let place : e.place ≡ Some Root = ap (λ (x : MapEntry). x.place) (sym same) ∙ root.place_is in (
              undone_valid e (entry_in_table a n e here),
              λ at_root. (let no : None ≡ Some Root = ap (λ (x : MapEntry). x.place) (sym gone) ∙ at_root in cc),
              record {
                apart = taken_apart a g had.holds n n root.taken;
                keeps = λ held. absurd (both_ways _ (had_not_meant held.0.block (entry_in a n) ((had.objects held.0 held.1 held.2).each n held.3)) (root_placed is_meant (entry_in a n) (made_is n there).entered));
                standing = λ x p found bit. undone_stands x.block e ∙ sym (no_shadow_stands x.block e (λ at_shadow. (let no : Some Root ≡ Some ShadowRoot = sym place ∙ at_shadow in cc)));
              },
            );
      }

  claim : (n : ℕ) → has_number n claims ≡ true → Claimed n
  claim n there = elim (has_either n taken (own ++ made) there) [
    | inl is ↦ of_object n (lists.meant n is) (λ e here root.
        let inner = tree_inner a (length a) id.block (content_of d) d.root d.draft.object draft.tree n (lists.stands n is) in
        inner.no_root (ap (λ (x : MapEntry). x.place) (same_Some _ _ (sym inner.taken.here ∙ here)) ∙ root))
    | inr more ↦ elim (has_either n own made more) [
      | inl is ↦ of_object n (own_meant n is) (λ e here root.
          let shadow = shadow_taken a id.block n (draft.shadow n (option_is d.shadow n is)) in
          let no : Some ShadowRoot ≡ Some Root = sym shadow.place_is ∙ ap (λ (x : MapEntry). x.place) (same_Some _ _ (sym shadow.taken.here ∙ here)) ∙ root in cc)
      | inr is ↦ of_made n is
    ]
  ]

  -- all that was meant for the object is among them, and so is what was to be made
  meant_there : (m : ℕ) → is_meant_for a id.block m ≡ true → has_number m claims ≡ true
  meant_there m meant = ⊎_elim (λ is. has_second m taken (own ++ made) (has_first m own made (option_has d.shadow m is))) (λ there. has_first m taken (own ++ made) there) (lists.all m meant)

  made_there : (c : ℕ) → d.created ≡ Some c → has_number c claims ≡ true
  made_there c is = has_second c taken (own ++ made) (has_second c own made (option_has d.created c is))

  -- ---- the image with all of them taken back

  abbrev pub b : Image
  b = mapped (turned (λ m. Undo) claims) a

  pub all_may : MayTurn (Frame a g) a (λ m. Undo) claims
  all_may n there =
      let c = claim n there in
      let t = (meant_is a c.owner n c.meant).taken in
      (t.is, t.here, c.may t.is t.here)

  begins : IsOn (Frame a g) a
  begins = frames_begin a g had.holds

  whole : AreWhole a
  whole = whole_on w (λ m. Undo) had.holds a begins

  pub b_is : IsMapped (turned (λ m. Undo) claims) a b
  b_is = turned_is w (λ m. Undo) had.holds claims a begins all_may

  pub b_same : (c : Image) → IsMapped (turned (λ m. Undo) claims) a c → c ≡ b
  b_same c is = sym (mapped_is (turned (λ m. Undo) claims) a c whole is)

  b_on : IsOn (Frame a g) b
  b_on = turned_on w (λ m. Undo) had.holds claims a b begins all_may b_is

  state_of : (n : ℕ) (e : MapEntry) → has_number n claims ≡ true → entry_in a n ≡ Some e → (is_free_entry (Some e) ≡ false) × (is_free_entry (Some (undone e)) ≡ true)
  state_of n e there here =
      let c = claim n there in
      let m = meant_is a c.owner n c.meant in
      let state = ap (λ (x : MapEntry). x.state) (same_Some _ _ (sym here ∙ m.taken.here)) ∙ m.state in
      (meant_not_free e state, undone_free e state)

  freed_there : (n : ℕ) → has_number n claims ≡ true → is_free_in b n ≡ true
  freed_there n there =
      let t = (meant_is a (claim n there).owner n (claim n there).meant).taken in
      ap is_free_entry (b_is.entries n t.is t.here ∙ ap (λ (x : Bool). Some (changed_if x Undo t.is)) there) ∙ (state_of n t.is there t.here).1

  kept : (m : ℕ) → has_number m claims ≡ false → entry_in b m ≡ entry_in a m
  kept m none = mapped_stays (turned (λ k. Undo) claims) a b whole b_is m (λ e here. ap (λ (x : Bool). changed_if x Undo e) none)

  pub freed : (c : ℕ) → d.created ≡ Some c → is_free_in b c ≡ true
  freed c is = freed_there c (made_there c is)

  -- what holds of a block that is Free now, and of one as it was
  either : (P : ℕ → Type 0) → ((m : ℕ) → is_free_in b m ≡ true → P m) → ((m : ℕ) → has_number m claims ≡ false → entry_in b m ≡ entry_in a m → P m) → (m : ℕ) → P m
  either P free same m = ⊎_elim (λ there. free m (freed_there m there)) (λ none. same m none (kept m none)) (cases_Bool (has_number m claims))

  pub none_meant : (m : ℕ) → is_meant_for b id.block m ≡ false
  none_meant = either (λ m. is_meant_for b id.block m ≡ false) (λ m free. free_unowned is_meant refl id.block (entry_in b m) free)
      (λ m none same. false_from_ne_true _ (λ meant. both_ways _ none (meant_there m (ap (is_owned_by is_meant id.block) (sym same) ∙ meant))))

  -- nothing is left of what was to be made
  pub none_left : (c : ℕ) → d.created ≡ Some c → OwnsNothing b c
  none_left c is = either (λ m. is_owned_by is_taken c (entry_in b m) ≡ false) (λ m free. free_unowned is_taken refl c (entry_in b m) free)
      (λ m none same. false_from_ne_true _ (λ of_c. both_ways _ none (subst (λ (k : ℕ). has_number k claims ≡ true) (sym ((made_is c (option_has d.created c is)).alone m (ap (is_owned_by is_taken c) (sym same) ∙ of_c))) (made_there c is))))

  pub only_meant : ChangesOnly (λ e. of_drafts (id.block ∷ option_to_list d.created) e) a b
  only_meant = record {
    size = b_on.size;
    maps = b_on.maps;
    own = b_on.own;
    label = b_on.label;
    fixed = b_on.fixed;
    entries = λ m. ⊎_elim (λ there. inr (opened m (claim m there), inl (freed_there m there))) (λ none. inl (kept m none)) (cases_Bool (has_number m claims));
    contents = λ m loose. inl (b_is.contents m (not_map m loose));
  }
    where
      opened : (m : ℕ) → Claimed m → IsOpenTo (λ e. of_drafts owners e) (entry_in a m)
      opened m c =
          let two = and_parts (is_placed is_meant (entry_in a m)) _ c.meant in
          inr (placed_taken is_meant refl (entry_in a m) two.0, and_from _ _ two.0 (subst (λ (n : ℕ). has_number n owners ≡ true) (owner_is is_meant c.owner (entry_in a m) c.meant) c.among))

  claims_differ : numbers_differ claims ≡ true
  claims_differ = differ_append taken (own ++ made) lists.once
      (differ_append own made (option_once d.shadow) (option_once d.created) (λ n is. false_from_ne_true _ (λ there. both_ways _ (made_not_meant n there) (own_meant n is))))
      (λ n is. false_from_ne_true _ (λ there. elim (has_either n own made there) [
        | inl shadow ↦ both_ways _ (lists.no_shadow n (option_is d.shadow n shadow)) is
        | inr new ↦ both_ways _ (made_not_meant n new) (lists.meant n is)
      ]))

  pub counts_now : AreCounts a k0 → AreCounts b (given_all (given_all (given_all k0 taken) (option_to_list d.shadow)) (option_to_list d.created))
  counts_now counts = subst (AreCounts b) (given_append k0 taken (own ++ made) ∙ given_append (given_all k0 taken) own made)
      (counts_given_all w had.holds Undo claims a k0 claims_differ begins all_may counts (λ n e there here. state_of n e there here))

module _ {D : Type 0} {g : Ghosts D} {d0 : D} {k0 : Kept} {was : Drafting} (v : DraftView g d0 k0 was) {taken : List ℕ} (lists : AreTaken (g.content d0) v.id (opened_as was v.draft) taken) where
  abbrev d : Opened
  d = opened_as was v.draft

  abbrev a : Image
  a = g.content d0

  draft : HasDraft (g.content d0) v.id (opened_as was v.draft)
  draft = draft_of v

  abbrev pub plan : List ℕ
  plan = undoing taken was.shadow was.created

  may : MayTurn (Frame (g.content d0) v.graph) (g.content d0) (λ m. Undo) plan
  may = all_may a v.graph v.ds v.id v.object k0 d taken v.store.account v.at v.opened.alone draft lists

  dropped : {d1 : D} (n t : ℕ) → Flips g n t Undo plan d0 d1 (Ok tt) → Dropped g v.graph v.ds v.id was.created d0 d1 (given_all (given_all (given_all k0 taken) (option_to_list was.shadow)) (option_to_list was.created))
  dropped {d1} n t f =
      let frame = keeps_frame g v.graph d0 v.store.carries in
      let content : g.content d1 ≡ b a v.graph v.ds v.id v.object k0 d taken v.store.account v.at v.opened.alone draft lists =
      b_same a v.graph v.ds v.id v.object k0 d taken v.store.account v.at v.opened.alone draft lists (g.content d1) (f.put (Frame a v.graph) v.store.account.holds frame may) in
      let only = subst (ChangesOnly (λ e. of_drafts (v.id.block ∷ option_to_list was.created) e) a) (sym content) (only_meant a v.graph v.ds v.id v.object k0 d taken v.store.account v.at v.opened.alone draft lists) in
      let nothing = subst (λ (i : Image). (x : ℕ) → is_meant_for i v.id.block x ≡ false) (sym content) (none_meant a v.graph v.ds v.id v.object k0 d taken v.store.account v.at v.opened.alone draft lists) in
      record {
        store = record {
          carries = carries_framed g a v.graph d1 v.store.account.holds (f.keeps (Frame a v.graph) v.store.account.holds (keeps_frame g v.graph d0 v.store.carries) may);
          account = by was.created refl content only nothing;
          counts = subst (λ (i : Image). AreCounts i (given_all (given_all (given_all k0 taken) (option_to_list was.shadow)) (option_to_list was.created))) (sym content) (counts_now a v.graph v.ds v.id v.object k0 d taken v.store.account v.at v.opened.alone draft lists v.store.counts);
          ordered = v.store.ordered;
        };
        freed = λ c is. ap (λ (i : Image). is_free_in i c) content ∙ freed a v.graph v.ds v.id v.object k0 d taken v.store.account v.at v.opened.alone draft lists c is;
        only = only;
      }
    where
      by : (x : Option ℕ) → was.created ≡ x → g.content d1 ≡ b a v.graph v.ds v.id v.object k0 d taken v.store.account v.at v.opened.alone draft lists → ChangesOnly (λ e. of_drafts (v.id.block ∷ option_to_list x) e) a (g.content d1) → ((x : ℕ) → is_meant_for (g.content d1) v.id.block x ≡ false) → Accounts (g.content d1) v.graph (without_draft v.id v.ds)
      by None none content only nothing = draft_goes_on a (g.content d1) v.graph v.ds v.id v.object None v.store.account v.at nothing only (sym (ap created_if v.opened.alone ∙ none))
      by (Some c) is content only nothing = making_ends a (g.content d1) v.graph v.ds v.id v.object None v.store.account v.at nothing c only (ap created_if v.opened.alone ∙ is) refl
          (subst (λ (i : Image). OwnsNothing i c) (sym content) (none_left a v.graph v.ds v.id v.object k0 d taken v.store.account v.at v.opened.alone draft lists c is))

  pub abort_ends : {d1 : D} {n t : ℕ} {r : Result (Unit {0}) Trouble} {after : Kept} → Flips g n t Undo plan d0 d1 r → OnOk r (after ≡ given_all (given_all (given_all k0 taken) (option_to_list was.shadow)) (option_to_list was.created)) → AbortEnds g v.graph v.ds v.id was.created d0 d1 after r
  abort_ends {d1} {n} {t} {r} {after} f given = record {
    done = all r f given;
    leaves = wider g d0 d1 (IsOn (Frame a v.graph)) (λ c. Holds c v.graph) (f.leaves (Frame a v.graph) v.store.account.holds (keeps_frame g v.graph d0 v.store.carries) may) (λ c on. frames_hold a c v.graph v.store.account.holds on);
    sound = f.sound (Frame a v.graph) v.store.account.holds (keeps_frame g v.graph d0 v.store.carries) may;
  }
    where
      all : (r : Result (Unit {0}) Trouble) → Flips g n t Undo plan d0 d1 r → OnOk r (after ≡ given_all (given_all (given_all k0 taken) (option_to_list was.shadow)) (option_to_list was.created)) → OnOk r (Dropped g v.graph v.ds v.id was.created d0 d1 after)
      all (Ok u) f is = subst (Dropped g v.graph v.ds v.id was.created d0 d1) (sym is) (dropped n t f)
      all (Err e) f is = tt

-- an abort that was refused before it gave up anything
pub abort_stops : {D : Type 0} {g : Ghosts D} {graph : Graph} {ds : Drafts} {id : Puid} {created : Option ℕ} {old new : D} {space : Kept} {e : Trouble} → Leaves g old new (λ c. ⊥) → is_damage e ≡ false → AbortEnds g graph ds id created old new space (Err e)
abort_stops {g = g} {graph} {old = old} {new} images sound = record { done = tt; leaves = wider g old new (λ c. ⊥) (λ c. Holds c graph) images (λ c no. absurd no); sound = sound }

-- the draft after calls that changed nothing
abbrev pub still_view : {D : Type 0} {g : Ghosts D} {d0 d1 : D} {space : Kept} {was : Drafting} (v : DraftView g d0 space was) → g.content d1 ≡ g.content d0 → ((n : ℕ) → IsTrue (g.told d0 n) → IsTrue (g.told d1 n)) → Leaves g d0 d1 Nothing → IsSameDisk g.blocks g.honest g.tells_images d0 d1 → DraftView g d1 space was
still_view v content told images same = view (store_still v.store content told images same) v.at v.opened

-- an abort after calls that changed nothing
pub abort_since : {D : Type 0} {g : Ghosts D} {graph : Graph} {ds : Drafts} {id : Puid} {created : Option ℕ} {old mid new : D} {space : Kept} {r : Result (Unit {0}) Trouble} → g.content mid ≡ g.content old → Leaves g old mid (λ c. ⊥) → AbortEnds g graph ds id created mid new space r → AbortEnds g graph ds id created old new space r
abort_since {g = g} {graph} {id = id} {created} {old} {mid} {new} {r = r} content images ends = record {
  done = on_ok r ends.done (λ is. record { store = is.store; freed = is.freed; only = subst (λ (i : Image). ChangesOnly (λ e. of_drafts (id.block ∷ option_to_list created) e) i (g.content new)) content is.only });
  leaves = then g old mid new (λ c. Holds c graph) (λ c. Holds c graph) (wider g old mid (λ c. ⊥) (λ c. Holds c graph) images (λ c no. absurd no)) ends.leaves (λ c h. h);
  sound = ends.sound;
}
