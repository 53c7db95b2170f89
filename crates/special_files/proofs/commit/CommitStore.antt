-- The store once a draft is its object, with what was made.
use Rattle.std.proofs.Common.{◌≡◌, ◌≢◌, inl, inr, ℕ, ◌%◌, ◌<◌, Bool, true, false, cond, List, [], ◌∷◌, length, Option, Some, None, Err, refl, sym, ◌∙◌, ap, subst}
use Rattle.special_files.proofs.Words.{Accounts, AreDraftParts, ChangesOnly, CommitEnds, Committed, Decided, DraftView, Drafting, Drafts, FinishesCommit, Ghosts, Graph, Holds, Image, IsBareRoot, IsMadeRoot, IsOldOrNew, IsReady, Kept, Leaves, Makes, Making, Object, OnlyReads, Opened, Puid, ReadsAs, Result, TakesShadow, Tree, Trouble, and_from, and_parts, bare_object, bare_reads, block_at, changes_then, changes_wider, content_of, created_if, creation_goes_on, false_from_ne_true, frames_begin, has_number, here, in_image, is_damage, is_free_in, is_meant, is_placed, making_root, object_at, object_at-with_object, object_at_put, object_changes_on, object_made, of_draft, of_owners, on_ok, opened_as, option_to_list, owner_of, part_of, placed_taken, rises, rises-with_object, root_spelling, same_Some, same_puid, same_puid_is, sight, taken_apart, then, tree_in, wider, with_making, with_object, without_draft}
use Rattle.block_tree.specs.declared.root.Root as roots
use Rattle.special_files.proofs.View.{read_leaves}
use Rattle.special_files.proofs.CommitDraft.{AtShadow}
use Rattle.intentions.proofs.Turned.{first_number, option_is}
use Rattle.special_files.proofs.Made.{bare_has, bare_kept, bare_unmeant, content_kept, made_apart, made_kept, made_root, still_made, draft_made}
use Rattle.vol_owners.proofs.Drafts.{each_draft}
use Rattle.vol_owners.proofs.Owners.{no_draft}
use Rattle.cyl_alloc.specs.Left.{LeftCommit}
use Rattle.std.specs.Prelude.{◌==◌}
use Rattle.ufs_model.specs.Graph.{ids_of}
use Rattle.ufs_model.proofs.Reached.{same_puid_itself}
use Rattle.intentions.specs.Left.{StoreIs, StoreWith, coming, final_image}
use Rattle.std.proofs.lemmas.Bool.{both_ways, eqb-true, or_cases}
use Rattle.vol_image.proofs.Changes.{same_block}

-- what only a draft changed, these owners did
pub owners_change : (r : ℕ) (rs : List ℕ) (a b : Image) → has_number r rs ≡ true → ChangesOnly (λ e. of_draft r e) a b → ChangesOnly (λ e. of_owners rs e) a b
owners_change r rs a b among only = changes_wider (λ e. of_draft r e) (λ e. of_owners rs e) a b (λ entry is.
    let two = and_parts (is_placed is_meant entry) _ is in
    and_from _ _ (placed_taken is_meant refl entry two.0) (subst (λ (n : ℕ). has_number n rs ≡ true) (same_Some _ _ (option_is (Some r) (owner_of entry) two.1)) among)) only

-- of the objects with another one
other_at : (g : Graph) (x id : Puid) (p o : Object) → same_puid id x ≡ false → object_at g id ≡ Some o → object_at (with_object g x p) id ≡ Some o
other_at g x id p o other at = object_at-with_object g x p id ∙ ap (λ (b : Bool). cond b (Some p) (object_at g id)) other ∙ at

-- of the object whose commit is decided, and of one that is made with it, no draft is left
module _ (a : Image) (graph : Graph) (ds : Drafts) (id : Puid) (was : Object) (created : Option ℕ) (account : Accounts a graph ds) (at : object_at graph id ≡ Some was) (made : (c : ℕ) → created ≡ Some c → IsMadeRoot a c) where
  not_another : (x : Puid) → same_puid x id ≡ false → (p : Object) → object_at graph x ≡ Some p → has_number x.block (id.block ∷ option_to_list created) ≡ true → ⊥
  not_another x other p here among = elim (or_cases (id.block == x.block) (has_number x.block (option_to_list created)) among) [
    | inl same ↦ both_ways _ other (subst (λ (y : Puid). same_puid y id ≡ true) (sym (same_block a (length a) x id p was (account.holds.objects x p here) (account.holds.objects id was at) (sym (eqb-true id.block x.block same)))) (same_puid_itself id))
    | inr there ↦ made_apart a account.holds.own x.block (made x.block (option_is created x.block there)) x.block (account.objects x p here) refl
  ]

  pub shut : (x : Puid) → has_number x.block (id.block ∷ option_to_list created) ≡ true → (without_draft id ds) x ≡ None
  shut x among = each_draft id None ds (λ y d. d ≡ None) refl x (λ other. no_draft a graph ds account x (λ p here. not_another x other p here among))

-- the store, with what is left
left_store : {D : Type 0} (g : Ghosts D) (full : Graph) (fs : Drafts) (id : Puid) (o : Object) (s : ℕ) (created : Option ℕ) (d1 d2 : D) (k2 : Kept) → Decided g full id o s created d1 d2 k2 → Accounts (final_image g d2 k2) (with_object full id o) fs
    → ((x : Puid) → has_number x.block (id.block ∷ option_to_list created) ≡ true → fs x ≡ None) → rises (ids_of (with_object full id o)) ≡ true → StoreIs g (with_object full id o) fs d2 k2
left_store g full fs id o s created d1 d2 k2 done account shut ordered = subst (λ (w : Option LeftCommit). StoreWith g (with_object full id o) fs d2 k2 w) (sym done.kept.is) (record {
  going = done.going;
  owners = id.block ∷ option_to_list created;
  own = subst (λ (n : ℕ). has_number n (id.block ∷ option_to_list created) ≡ true) (sym (done.going.root_is ∙ done.kept.root)) (first_number id.block _);
  opens = done.opens;
  shut = shut;
  account = subst (λ (w : Option LeftCommit). Accounts (coming (g.content d2) w) (with_object full id o) fs) done.kept.is account;
  ordered = ordered;
})

module _ {D : Type 0} {g : Ghosts D} {d0 d1 : D} {k0 k1 : Kept} {was : Drafting} {v : DraftView g d0 k0 was} {s : ℕ} {taken dropped : List ℕ} (shadow : AtShadow v s taken dropped d1 k1) {created : Option ℕ} (created_is : was.created ≡ created) where
  abbrev d : Opened
  d = opened_as was v.draft

  abbrev a : Image
  a = g.content d0

  abbrev b : Image
  b = g.content d1

  -- the tree of the one draft that stood
  tree_by : (t : Tree) → t ≡ tree_in b (block_at b s) → (e : Opened) → v.ds v.id ≡ Some e → t ≡ tree_in a (content_of e)
  tree_by t is e there = let one = same_Some _ _ (sym v.opened.alone ∙ there) in is ∙ shadow.tree ∙ ap (λ (x : Opened). tree_in a (content_of x)) one

  -- its root
  root_by : (content : List ℕ) → content ≡ block_at b s → (e : Opened) → v.ds v.id ≡ Some e → content ≡ root_spelling e.root
  root_by content is e there = let one = same_Some _ _ (sym v.opened.alone ∙ there) in is ∙ shadow.spelled ∙ ap (λ (x : Opened). root_spelling x.root) one

  -- the claim of its shadow root, whose block stays as it was
  order_by : (c : Image) → ((n : ℕ) → n % 64 ≢ 0 → n ≢ v.id.block → block_at c n ≡ block_at b n) → block_at c v.id.block ≡ block_at b s → is_free_in c s ≡ true → (e : Opened) → v.ds v.id ≡ Some e → e.shadow ≡ None
      → TakesShadow v.id.block a c
  order_by c left copied free e there none =
      let one = same_Some _ _ (sym v.opened.alone ∙ there) in
      let by = shadow.claim (ap (λ (x : Opened). x.shadow) one ∙ none) in
      record { shadow = s; least = by.0; given_back = free; copied = left s by.1 by.2 ∙ sym copied }

  -- with the objects that there are then
  ready_for : (full : Graph) → Holds (g.content d1) full → object_at full v.id ≡ Some v.object → ((c : ℕ) → created ≡ Some c → IsMadeRoot (g.content d1) c) → IsReady (g.content d1) full v.id v.object v.draft.object s taken dropped created
  ready_for full holds at_full made = record {
    holds = holds;
    at = at_full;
    has = shadow.ready.has;
    draft = shadow.ready.draft;
    meant = shadow.ready.meant;
    stands = shadow.ready.stands;
    all = shadow.ready.all;
    once = shadow.ready.once;
    own = shadow.ready.own;
    gone = shadow.ready.gone;
    others = shadow.ready.others;
    dropped_once = shadow.ready.dropped_once;
    made = made;
  }

  -- ---- an object is made

  module _ (m : Making) (is : created ≡ Some m.id.block) (root : roots.Root) (bare : IsBareRoot (g.content d0) m.id root) (same : bare_object root ≡ m.object) where
    abbrev c : ℕ
    c = m.id.block

    abbrev full : Graph
    full = with_object v.graph m.id m.object

    was_made : IsMadeRoot (g.content d0) m.id.block
    was_made = draft_made a v.graph v.ds v.store.account v.id d v.opened.alone m.id.block (created_is ∙ is)

    apart : m.id.block ≢ v.id.block
    apart = made_apart a v.store.account.holds.own c was_made v.id.block (v.store.account.objects v.id v.object v.at)

    bare_now : IsBareRoot (g.content d1) m.id root
    bare_now = bare_kept a b m.id root bare (record {
      part = ap part_of (made_kept a v.store.account.holds.own c was_made b v.id.block apart shadow.amid.only);
      content = content_kept a v.store.account.holds.own c was_made b v.id.block apart shadow.amid.only (taken_apart a v.graph v.store.account.holds c c (made_root a v.store.account.holds.own c was_made).at.taken);
    })

    other : same_puid v.id m.id ≡ false
    other = false_from_ne_true _ (λ one. apart (ap (λ (x : Puid). x.block) (sym (same_puid_is v.id m.id one))))

    new_other : same_puid m.id v.id ≡ false
    new_other = false_from_ne_true _ (λ one. apart (ap (λ (x : Puid). x.block) (same_puid_is m.id v.id one)))

    ready_made : IsReady (g.content d1) (with_object v.graph m.id m.object) v.id v.object v.draft.object s taken dropped created
    ready_made = ready_for full
        (object_made b b v.graph m.id m.object shadow.amid.carries.holds (frames_begin b v.graph shadow.amid.carries.holds) (subst (ReadsAs (length b) m.id (sight b c)) same (bare_reads b m.id root bare_now)))
        (other_at v.graph m.id v.id m.object v.object other v.at)
        (λ n at_n. subst (IsMadeRoot b) (same_Some _ _ (sym is ∙ at_n)) (still_made a v.store.account.holds.own c was_made b v.id.block apart shadow.amid.only))

    store_made : (d2 : D) (k2 : Kept) → Decided g (with_object v.graph m.id m.object) v.id v.draft.object s created d1 d2 k2 → Committed g v.graph v.ds v.id v.draft.object (Some m) d0 d2 k2
    store_made d2 k2 done =
        let e = final_image g d2 k2 in
        let all = changes_then _ a b e (owners_change v.id.block (v.id.block ∷ c ∷ []) a b (first_number v.id.block (c ∷ [])) shadow.amid.only) (subst (λ (x : Option ℕ). ChangesOnly (λ e. of_owners (v.id.block ∷ option_to_list x) e) b e) is done.only) in
        let reads = λ (x : Puid) (p : Object) (found : object_at (with_object full v.id v.draft.object) x ≡ Some p). subst (λ (n : ℕ). ReadsAs n x (sight e x.block) p) all.size (done.holds.objects x p found) in
        record {
          store = left_store g full (without_draft v.id v.ds) v.id v.draft.object s created d1 d2 k2 done
              (creation_goes_on a e v.graph v.ds v.id v.object v.draft.object None v.store.account v.at (reads v.id v.draft.object (object_at_put full v.id v.draft.object)) done.has done.none_meant
              m.id m.object (ap created_if v.opened.alone ∙ created_is ∙ is) refl (reads m.id m.object (other_at full v.id m.id v.draft.object m.object new_other (object_at_put v.graph m.id m.object)))
              (bare_has b e m.id root bare_now (done.made c is)) (bare_unmeant b e m.id root bare_now (done.made c is)) all)
              (shut a v.graph v.ds v.id v.object created v.store.account v.at (λ n at_n. subst (IsMadeRoot a) (same_Some _ _ (sym is ∙ at_n)) was_made))
              (rises-with_object full v.id v.draft.object (rises-with_object v.graph m.id m.object v.store.ordered));
          settled = done.settled;
          only = all;
          tree = tree_by _ done.tree;
          order = order_by e done.stays done.copied done.given_back;
          root = root_by _ done.copied;
        }

  -- ---- none is made

  store_alone : created ≡ None → (d2 : D) (k2 : Kept) → Decided g v.graph v.id v.draft.object s created d1 d2 k2 → Committed g v.graph v.ds v.id v.draft.object None d0 d2 k2
  store_alone none d2 k2 done =
      let e = final_image g d2 k2 in
      let all = changes_then _ a b e (owners_change v.id.block (v.id.block ∷ []) a b (first_number v.id.block []) shadow.amid.only) (subst (λ (x : Option ℕ). ChangesOnly (λ e. of_owners (v.id.block ∷ option_to_list x) e) b e) none done.only) in
      record {
        store = left_store g v.graph (without_draft v.id v.ds) v.id v.draft.object s created d1 d2 k2 done
            (object_changes_on a e v.graph v.ds v.id v.object v.draft.object None v.store.account v.at
            (subst (λ (n : ℕ). ReadsAs n v.id (sight e v.id.block) v.draft.object) all.size (done.holds.objects v.id v.draft.object (object_at_put v.graph v.id v.draft.object)))
            done.has done.none_meant all (sym (ap created_if v.opened.alone ∙ created_is ∙ none)))
            (shut a v.graph v.ds v.id v.object created v.store.account v.at (λ c is. (let no : None ≡ Some c = sym none ∙ is in cc)))
            (rises-with_object v.graph v.id v.draft.object v.store.ordered);
        settled = done.settled;
        only = all;
        tree = tree_by _ done.tree;
        order = order_by e done.stays done.copied done.given_back;
        root = root_by _ done.copied;
      }

  -- ---- either

  full_ready : (made : Option Making) → Makes (g.content d0) created made → IsReady (g.content d1) (with_making v.graph made) v.id v.object v.draft.object s taken dropped created
  full_ready None none = ready_for v.graph shadow.ready.holds v.at (λ c is. (let no : None ≡ Some c = sym none ∙ is in cc))
  full_ready (Some m) makes = ready_made m makes.0 makes.1.0 makes.1.1 makes.1.2

  committed : (made : Option Making) → Makes (g.content d0) created made → (d2 : D) (k2 : Kept) → Decided g (with_making v.graph made) v.id v.draft.object s created d1 d2 k2 → Committed g v.graph v.ds v.id v.draft.object made d0 d2 k2
  committed None none d2 k2 done = store_alone none d2 k2 done
  committed (Some m) makes d2 k2 done = store_made m makes.0 makes.1.0 makes.1.1 makes.1.2 d2 k2 done

  pub commit_ends : (made : Option Making) → Makes (g.content d0) created made → {n : ℕ} → v.id.block ≡ n → {d2 : D} {k2 : Kept} {r : Result (Unit {0}) Trouble} → FinishesCommit g n s taken dropped created d1 d2 k1 k2 r → CommitEnds g v.graph v.ds v.id v.draft.object made d0 d2 k2 r
  commit_ends made makes root {d2} {k2} {r} finishes =
      let f = subst (λ (x : ℕ). FinishesCommit g x s taken dropped created d1 d2 k1 k2 r) (sym root) finishes in
      let full = with_making v.graph made in
      let stands = full_ready made makes in
      record {
        done = on_ok r (f.done v.graph full v.id.word v.object v.draft.object shadow.amid.carries shadow.amid.counts stands) (committed made makes d2 k2);
        leaves = then g d0 d1 d2 (IsOldOrNew v.graph full v.id v.draft.object) (IsOldOrNew v.graph full v.id v.draft.object) (wider g d0 d1 (λ x. Holds x v.graph) (IsOldOrNew v.graph full v.id v.draft.object) shadow.amid.leaves (λ x h. inl h)) (f.leaves v.graph full v.id.word v.object v.draft.object shadow.amid.carries shadow.amid.counts stands) (λ x h. h);
        sound = f.sound v.graph full v.id.word v.object v.draft.object shadow.amid.carries shadow.amid.counts stands;
      }

-- a commit that was refused with the objects as they were
pub commit_stops : {D : Type 0} {g : Ghosts D} {graph : Graph} {ds : Drafts} {id : Puid} {o : Object} {made : Option Making} {old new : D} {space : Kept} {e : Trouble} → Leaves g old new (λ c. Holds c graph) → is_damage e ≡ false → CommitEnds g graph ds id o made old new space (Err e)
commit_stops {g = g} {graph} {id = id} {o} {made} {old} {new} leaves sound = record {
  done = tt;
  leaves = wider g old new (λ c. Holds c graph) (IsOldOrNew graph (with_making graph made) id o) leaves (λ c h. inl h);
  sound = sound;
}

-- the same after calls that only read
pub commit_after : {D : Type 0} {g : Ghosts D} {graph : Graph} {ds : Drafts} {id : Puid} {o : Object} {made : Option Making} {d0 d1 d2 : D} {space : Kept} {n : ℕ} {r : Result (Unit {0}) Trouble} → OnlyReads g n d0 d1
    → CommitEnds g graph ds id o made d1 d2 space r → CommitEnds g graph ds id o made d0 d2 space r
commit_after {g = g} {graph} {id = id} {o} {made} {d0} {d1} {d2} {space} {r = r} reads ends = record {
  done = on_ok r ends.done (λ is. record {
    store = is.store;
    settled = is.settled;
    only = subst (λ (a : Image). ChangesOnly (λ entry. of_owners (id.block ∷ option_to_list (making_root made)) entry) a (final_image g d2 space)) reads.content is.only;
    tree = λ d alone. is.tree d alone ∙ ap (λ (a : Image). tree_in a (content_of d)) reads.content;
    order = λ d alone none. subst (λ (a : Image). TakesShadow id.block a (final_image g d2 space)) reads.content (is.order d alone none);
    root = is.root;
  });
  leaves = then g d0 d1 d2 (IsOldOrNew graph (with_making graph made) id o) (IsOldOrNew graph (with_making graph made) id o) (read_leaves reads) ends.leaves (λ c h. h);
  sound = ends.sound;
}

-- the root of an object that is made is a block of the image
pub made_below : {D : Type 0} {g : Ghosts D} {disk : D} {space : Kept} {was : Drafting} (v : DraftView g disk space was) (c : ℕ) → was.created ≡ Some c → c < length (g.content disk)
made_below {g = g} {disk} {was = was} v c is =
    let root = (made_root (g.content disk) v.store.account.holds.own c (draft_made (g.content disk) v.graph v.ds v.store.account v.id (opened_as was v.draft) v.opened.alone c is)).at in
    in_image (g.content disk) v.graph v.store.account.holds c root.taken.is root.taken.here

-- the parts of a draft
pub parts_of : (was now : Drafting) → now ≡ was → AreDraftParts was now.at now.shadow now.own now.root now.created
parts_of was now same = record {
  at_is = ap (λ (w : Drafting). w.at) (sym same);
  shadow_is = ap (λ (w : Drafting). w.shadow) (sym same);
  own_is = ap (λ (w : Drafting). w.own) (sym same);
  root_is = ap (λ (w : Drafting). w.root) (sym same);
  created_is = ap (λ (w : Drafting). w.created) (sym same);
}
