-- A draft that makes an object: what stands once the object's root is claimed and written, and then its slot is filled.
use Rattle.std.proofs.Common.{◌≡◌, ◌≢◌, inl, ⊎_elim, ℕ, ◌+◌, ◌/◌, ◌%◌, true, false, List, [], ◌∷◌, length, Option, Some, None, Ok, Err, refl, sym, ◌∙◌, ap, subst, arith, eq-eqb}
use Rattle.special_files.proofs.Words.{Accounts, ChangesOnly, DraftView, Drafting, Drafts, EndsCall, FillCall, FillsDraft, FillsIfIndex, Free, Ghosts, GoesTo, HasDraft, HasTried, Image, Index, IsBareRoot, IsEntry, IsLeastFree, IsMadeRoot, IsOpen, IsOpenTo, IsRootBlock, Kept, MapEntry, Opened, Puid, Refused, Result, Root, SameBeside, StoreHas, Swap, Tree, after_try, and_from, and_parts, block_at, block_at-with_entry, both_ways, changes_entry, changes_then, changes_wider, created_if, draft_takes, entry_in, entry_in-set, entry_in-with_entry_other, entry_in-with_entry_same, free_is_loose, has_met_damage, has_number, in_image, intended, is_fixed, is_free_in, is_full_refusal, is_had, is_made, is_meant, is_owned_by, is_placed, is_taken, length-with_entry, making_begins, ne_eqb, node_pointers, not_map, of_draft, of_drafts, of_taken, opened_as, owner_of, part_of, pointers_of, puid_at, root_spelling, same_Some, same_or_not, same_tree, still_top, taken_apart, then, tree_in, tree_placed, tried_then, with_entry, with_opened}
use Rattle.cyl_map.specs.Volume.{is_free_entry}
use Rattle.intentions.proofs.Turned.{first_number, more_numbers, option_is}
use Rattle.special_files.specs.Creates.{CreatesBeside, CreatesIfIndex, HasImage, RootEnds, IsBare, MakesBesideCall, Spells, adopting, created_draft, with_root}
use Rattle.special_files.proofs.Endings.{ends_as, ends_err, ends_then, ends_wider, not_untried, still_ends, still_room, still_sound}
use Rattle.special_files.proofs.Made.{bare_kept, content_kept, made_kept}
use Rattle.special_files.proofs.Meant.{free_is, meant_open}
use Rattle.special_files.proofs.leaf.Puts.{taken_not_free}
use Rattle.special_files.proofs.View.{draft_of}
use Rattle.std.proofs.lemmas.List.{get_or-set_other, get_or-set_same}
use Rattle.vol_owners.proofs.Changes.{changes_content}
use Rattle.vol_owners.proofs.Drafts.{with_again, with_here}
use Rattle.vol_owners.proofs.Kept.{draft_kept}
use Rattle.vol_owners.proofs.Owners.{drafts_miss, list_misses}
use Rattle.vol_owners.proofs.Rooms.{owns_nothing}
use Rattle.block_tree.specs.declared.root.Root as roots

-- what only a draft changed, these did
drafts_change : (r : ℕ) (rs : List ℕ) (a b : Image) → has_number r rs ≡ true → ChangesOnly (λ e. of_draft r e) a b → ChangesOnly (λ e. of_drafts rs e) a b
drafts_change r rs a b among only = changes_wider (λ e. of_draft r e) (λ e. of_drafts rs e) a b (λ entry is.
    let two = and_parts (is_placed is_meant entry) _ is in
    and_from _ _ two.0 (subst (λ (n : ℕ). has_number n rs ≡ true) (same_Some _ _ (option_is (Some r) (owner_of entry) two.1)) among)) only

-- how a slot of such a draft is filled
abbrev pub SlotFills : {D : Type 0} → Ghosts D → (slot : ℕ) → Option Puid → (old new : D) → (before after : Kept) → (now : Drafting) → Result (Option Swap) Refused → Drafting → Type 0
SlotFills g slot what old new before after now result was = (v : DraftView g old before was) → GoesTo g v.graph (FillsIfIndex v slot what new after now) old new result

-- ---- with the root

-- The store has a draft that makes no object; and now, at the block that was the least Free one, the root of one stands.
module _ {D : Type 0} {g : Ghosts D} {d0 d1 : D} {k0 k1 : Kept} {was : Drafting} (v : DraftView g d0 k0 was) (no_created : was.created ≡ None) {c : ℕ} (least : IsLeastFree (g.content d0) c) (is_entry : IsEntry (intended Root c)) {root : roots.Root} (spelled : Spells root) (bare : IsBare root)
    (rooted : RootEnds g v.graph d0 d1 k1 (with_root (g.content d0) c root) (Ok (tt {0}))) where
  has : HasImage g v.graph d1 k1 (with_root (g.content d0) c root)
  has = rooted.done

  abbrev before : Image
  before = g.content d0

  abbrev after : Image
  after = g.content d1

  abbrev mid : Image
  mid = with_entry before c (intended Root c)

  -- the draft before and now, and the drafts
  abbrev stood : Opened
  stood = opened_as was v.draft

  abbrev stands : Opened
  stands = opened_as (adopting was c) v.draft

  abbrev es : Drafts
  es = with_opened v.id stands v.ds

  had : Accounts before v.graph v.ds
  had = v.store.account

  alone : es v.id ≡ Some stands
  alone = with_here v.id (Some stands) v.ds

  -- ---- the block

  free : (e : MapEntry) × (entry_in before c ≡ Some e) × (e.state ≡ Free)
  free = free_is before c least.free

  apart_maps : is_fixed c ≡ false
  apart_maps = (free_is_loose before v.graph had.holds c free.0 free.1 free.2).apart

  real : c % 64 ≢ 0
  real = not_map c apart_maps

  entry_here : entry_in after c ≡ Some (intended Root c)
  entry_here = ap (λ (x : Image). entry_in x c) has.content ∙ entry_in-set mid c (root_spelling root) c real ∙ entry_in-with_entry_same before c (intended Root c) free.0 free.1 is_entry

  entry_other : (n : ℕ) → n ≢ c → entry_in after n ≡ entry_in before n
  entry_other n other = ap (λ (x : Image). entry_in x n) has.content ∙ entry_in-set mid c (root_spelling root) n real ∙ entry_in-with_entry_other before c (intended Root c) free.0 n free.1 other

  block_here : block_at after c ≡ root_spelling root
  block_here = ap (λ (x : Image). block_at x c) has.content
      ∙ get_or-set_same mid c (root_spelling root) [] (omega (arith, in_image before v.graph had.holds c free.0 free.1, length-with_entry before c (intended Root c)))

  opens : IsOpenTo (λ e. of_draft c e) (Some (intended Root c))
  opens = meant_open c (Some (intended Root c)) (eq-eqb c c refl)

  only_root : ChangesOnly (λ e. of_draft c e) before after
  only_root =
      let entry = changes_entry (λ e. of_draft c e) before c (intended Root c) free.0 had.holds.maps had.holds.own apart_maps free.1 is_entry (λ r. refl) (inl (ap is_free_entry (sym free.1) ∙ least.free)) opens in
      subst (ChangesOnly (λ e. of_draft c e) before) (sym has.content) (changes_then (λ e. of_draft c e) before mid (with_root before c root) entry
      (changes_content (λ e. of_draft c e) mid c (root_spelling root) entry.maps entry.own apart_maps (subst (IsOpenTo (λ e. of_draft c e)) (sym (entry_in-with_entry_same before c (intended Root c) free.0 free.1 is_entry)) opens)))

  only_both : ChangesOnly (λ e. of_drafts (v.id.block ∷ c ∷ []) e) before after
  only_both = drafts_change c (v.id.block ∷ c ∷ []) before after (more_numbers v.id.block c (c ∷ []) (first_number c [])) only_root

  nothing : (n : ℕ) → is_owned_by is_taken c (entry_in before n) ≡ false
  nothing n = owns_nothing before v.graph v.ds had c least.free n

  made : IsMadeRoot after c
  made = record {
    entered = ap is_made entry_here;
    alone = λ n of_c. ⊎_elim (λ is. is) (λ other. absurd (both_ways _ (nothing n) (ap (is_owned_by is_taken c) (sym (entry_other n other)) ∙ of_c))) (same_or_not n c);
  }

  apart : c ≢ v.id.block
  apart same = both_ways _ (nothing c) (of_taken is_had refl c (entry_in before c) (subst (λ (n : ℕ). is_owned_by is_had n (entry_in before n) ≡ true) (sym same) ((had.objects v.id v.object v.at).each v.id.block (inl refl))))

  -- ---- the drafts

  draft_now : HasDraft after v.id stands
  draft_now =
      let kept = draft_kept (λ e. of_draft c e) before after v.graph v.ds had only_root v.id v.object v.at (drafts_miss is_had refl (c ∷ []) v.id.block)
      (list_misses is_meant is_meant (c ∷ []) v.id.block (rw (ne_eqb c v.id.block apart) refl)) stood (draft_of v) in
      record { own = kept.own; same_kind = kept.same_kind; same_word = kept.same_word; tree = kept.tree; shadow = kept.shadow; fresh = kept.fresh; no_other = kept.no_other }

  store_now : StoreHas g v.graph es d1 k1
  store_now = record {
    carries = has.carries;
    account = making_begins before after v.graph v.ds v.id v.object (Some stands) had v.at draft_now c only_both least.free (ap created_if v.opened.alone ∙ no_created) refl made;
    counts = has.counts;
    ordered = v.store.ordered;
  }

  -- the draft that makes it
  abbrev made_view : DraftView g d1 k1 (adopting was c)
  made_view = record {
    graph = v.graph;
    ds = es;
    id = v.id;
    object = v.object;
    draft = v.draft;
    store = store_now;
    at = v.at;
    opened = record { at = v.opened.at; alone = alone; leaf_flags = v.opened.leaf_flags; node_flags = v.opened.node_flags; fresh = v.opened.fresh };
  }

  -- the draft's own tree stands as it stood
  same_draft_tree : tree_in after (root_spelling was.root) ≡ tree_in before (root_spelling was.root)
  same_draft_tree = same_tree before after (root_spelling was.root) (λ p h there.
      let taken = (tree_placed before (length before) v.id.block (root_spelling was.root) was.root v.draft.object (draft_of v).tree p h there).taken in
      let other : h.block ≢ c = λ same. taken_not_free before h.block v.id.block taken (subst (λ (n : ℕ). is_free_in before n ≡ true) (sym same) least.free) in
      let no_map = not_map h.block (taken_apart before v.graph had.holds h.block v.id.block taken) in
      record {
        part = ap part_of (entry_other h.block other);
        content = ap (λ (x : Image). block_at x h.block) has.content ∙ get_or-set_other mid c h.block (root_spelling root) [] other ∙ block_at-with_entry before c (intended Root c) h.block (λ map. no_map (omega (arith, map)));
      })

  bare_now : IsBareRoot after (puid_at c root.word) root
  bare_now = record {
    part = ap part_of entry_here;
    spelled = subst (λ (x : List ℕ). IsRootBlock x root) (sym block_here) (spelled.spelled bare.good);
    word = refl;
    no_node = ap (pointers_of node_pointers) block_here ∙ sym spelled.nodes ∙ bare.no_node;
  }

  -- ---- its slot is filled

  creates : {d2 : D} {k2 : Kept} {now : Drafting} (i : Index) (slot : ℕ) (swap : Swap) → now.created ≡ Some c → FillsDraft made_view i slot (Some (puid_at c root.word)) d2 k2 now (Some swap) → CreatesBeside v i slot c root d2 k2 now swap
  creates {d2} {k2} {now} i slot swap created fills =
      let e = created_draft i slot c root v.draft in
      let again = with_again v.id (Some (opened_as now e)) v.ds (Some stands) in
      let only = fills.becomes.steps.only in
      record {
        store = subst (λ (xs : Drafts). StoreHas g v.graph xs d2 k2) again fills.becomes.steps.store;
        is_open = subst (λ (xs : Drafts). IsOpen xs v.id now e) again fills.becomes.is_open;
        makes = (
          created,
          (
            root,
            bare_kept after (g.content d2) (puid_at c root.word) root bare_now (record {
              part = ap part_of (made_kept after store_now.account.holds.own c made (g.content d2) v.id.block apart only);
              content = content_kept after store_now.account.holds.own c made (g.content d2) v.id.block apart only apart_maps;
            }),
            refl,
          ),
        );
        order = (after, record { block = c; least = least; here = entry_here; others = entry_other }, fills.order refl);
        beside = subst (λ (t : Tree). SameBeside (slot / 64) t (tree_in (g.content d2) (root_spelling now.root))) same_draft_tree fills.beside;
        only = changes_then _ before after (g.content d2) only_both (drafts_change v.id.block (v.id.block ∷ c ∷ []) after (g.content d2) (first_number v.id.block (c ∷ [])) only);
        swaps = fills.swaps;
      }

  module _ {d2 : D} {k2 : Kept} {mid now : Drafting} (slot : ℕ) (adopted : mid ≡ adopting was c) where
    pub created_goes : {put : Option Swap} (swap : Swap) → put ≡ Some swap → now.created ≡ mid.created → SlotFills g slot (Some (puid_at c root.word)) d1 d2 k1 k2 now (Ok put) mid → GoesTo g v.graph (CreatesIfIndex v slot c root d2 k2 now) d0 d2 (Ok swap)
    created_goes {put} swap is stays fills =
        let what = Some (puid_at c root.word) in
        let goes = subst (λ (p : Option Swap). SlotFills g slot what d1 d2 k1 k2 now (Ok p) (adopting was c)) is (subst (SlotFills g slot what d1 d2 k1 k2 now (Ok put)) adopted fills) made_view in
        record {
          done = λ i index. creates i slot swap (stays ∙ ap (λ (m : Drafting). m.created) adopted) (goes.done i index);
          leaves = then g d0 d1 d2 _ _ rooted.leaves goes.leaves (λ x h. h);
          sound = tt;
        }

    pub created_stops : {e : Refused} (x : Refused) → x ≡ after_try e → SlotFills g slot (Some (puid_at c root.word)) d1 d2 k1 k2 now (Err e) mid → GoesTo g v.graph (CreatesIfIndex v slot c root d2 k2 now) d0 d2 (Err x)
    created_stops {e} x is fills =
        let goes = subst (SlotFills g slot (Some (puid_at c root.word)) d1 d2 k1 k2 now (Err e)) adopted fills made_view in
        record { done = tt; leaves = then g d0 d1 d2 _ _ rooted.leaves goes.leaves (λ y h. h); sound = ap has_met_damage is ∙ still_sound true e goes.sound }

-- ---- how the call ends

module _ {D : Type 0} {g : Ghosts D} {d0 d1 : D} {k0 k1 : Kept} (was : Drafting) (slot c : ℕ) where
  -- the root isn't made
  pub make_stopped : {e : Refused} → EndsCall {A = Unit {0}} g (still_top was.at) 0 3 2 1 d0 d1 k0 k1 (Err e) → is_full_refusal e ≡ false → MakesBesideCall g slot c d0 d1 k0 k1 was was (Err e)
  make_stopped {e} ends spare = record {
    stays = tt;
    near = λ equal. tt;
    ends = ends_wider 0 11 6 (1 + draft_takes was (slot / 64)) (ends_err (still_ends was ends)) (omega arith) (omega arith) (omega (arith, ends.moves.takes));
    tried = tt;
    untried = ends.untried;
    room = λ enough. spare;
  }

  -- it is
  module _ (made : EndsCall {A = Unit {0}} g (still_top was.at) 0 3 2 1 d0 d1 k0 k1 (Ok tt)) (tried : HasTried g d0 d1) {d2 : D} {k2 : Kept} {mid now : Drafting} {what : Option Puid} (adopted : mid ≡ adopting was c) where
    -- the slot isn't filled
    pub fill_stopped_then : {e : Refused} (x : Refused) → x ≡ after_try e → FillCall g slot what d1 d2 k1 k2 mid now (Err e) → MakesBesideCall g slot c d0 d2 k0 k2 was now (Err x)
    fill_stopped_then {e} x is called =
        let call = subst (λ (m : Drafting). FillCall g slot what d1 d2 k1 k2 m now (Err e)) adopted called in
        subst (λ (y : Refused). MakesBesideCall g slot c d0 d2 k0 k2 was now (Err y)) (sym is) (record {
          stays = tt;
          near = λ equal. tt;
          ends = ends_then 11 6 (1 + draft_takes was (slot / 64)) (still_ends was made) (ends_err {B = Swap} call.ends) tried (omega arith) (omega arith) (omega arith);
          tried = tt;
          untried = λ same. absurd (not_untried e same);
          room = λ enough. still_room true e (call.room (omega (arith, enough, made.moves.takes)));
        })

    -- it is
    pub fill_done_then : {put : Option Swap} (swap : Swap) → put ≡ Some swap → FillCall g slot what d1 d2 k1 k2 mid now (Ok put) → MakesBesideCall g slot c d0 d2 k0 k2 was now (Ok swap)
    fill_done_then {put} swap is called =
        let call = subst (λ (p : Option Swap). FillCall g slot what d1 d2 k1 k2 (adopting was c) now (Ok p)) is (subst (λ (m : Drafting). FillCall g slot what d1 d2 k1 k2 m now (Ok put)) adopted called) in
        record {
          stays = call.stays;
          near = call.near;
          ends = ends_then 11 6 (1 + draft_takes was (slot / 64)) (still_ends was made) (ends_as swap call.ends) tt (omega arith) (omega arith) (omega arith);
          tried = tried_then g d0 d1 d2 8 4 tried call.ends.calls;
          untried = tt;
          room = λ enough. tt;
        }
