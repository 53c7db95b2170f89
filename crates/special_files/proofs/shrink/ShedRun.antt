-- The device calls that drop leaves from a draft: the node of the first is written without them, and claims are taken back.
use Rattle.std.proofs.Common.{◌≡◌, ◌≢◌, ◌⊎◌, inl, inr, ℕ, ◌/◌, ◌%◌, ◌^◌, ◌<◌, ◌≤◌, Bool, true, false, List, [], ◌∷◌, length, Ok, Some, refl, sym, ◌∙◌, ap, subst, get_or-set_other, get_or-set_same, arith}
use Rattle.special_files.proofs.Words.{AreClaimed, AreCounts, AreShed, BelongsTo, BlockNo, ChangesOnly, Claims, ClaimsAndDrops, Course, DraftView, Drafting, Drafts, Flips, Frame, GetsDraftNode, Ghosts, Graph, Had, HasDraft, Holds, IfErr, Image, IsOn, IsPathPast, IsShed, Kept, Leaves, MapEntry, MayTurn, Node, Object, Opened, Puid, Refused, Result, Root, StoreHas, Trouble, Undo, WritesDraftBlock, block_at, block_at-with_entry, both_ways, carries_framed, cases_Bool, changed_if, changes_then, claimed_by, content_of, entry_in, entry_in-set, entry_in-with_entry_other, entry_in-with_entry_same, entry_in_table, false_from_ne_true, frames_begin, frames_hold, free_is_loose, free_unowned, given_all, has_number, held, held_at, held_there, in_image, intended, is_damage, is_free_entry, is_free_in, is_meant, is_meant_for, is_owned_by, keeps_frame, leaf_limit, leaf_pointers, leaves_at, length-with_entry, may_take_back, node_claims, node_place, not_map, numbers_differ, object_at, of_draft, one_path, opened_as, part_at, part_of, pointer, pointer_to_node, root_spelling, same_Some, slice_index, taken_apart, tree_in, tree_of, tree_placed, turned, undone, wider}
use Rattle.std.proofs.Math.ListN.{length-set}
use Rattle.special_files.proofs.Amid.{IsAmid, amid_leaves, claim_leaves, claimed, write_leaves, wrote}
use Rattle.special_files.proofs.commit.CommitEntries.{meant_not_free, undone_free}
use Rattle.special_files.proofs.commit.CommitFlips.{counts_given_all}
use Rattle.cyl_map.proofs.Mapped.{block_at-mapped, length-mapped, mapped_is, mapped_stays}
use Rattle.intentions.proofs.Turned.{turned_is, turned_on, whole_on}
use Rattle.cyl_map.specs.Mapped.{IsMapped, mapped}
use Rattle.special_files.proofs.commit.CommitWhole.{tree_inner}
use Rattle.special_files.proofs.Fresh.{fresh_there, read_leaf_is, small_image, unfresh}
use Rattle.special_files.proofs.Levels.{Tell}
use Rattle.special_files.proofs.Meant.{free_is, meant_is, meant_loose, meant_open, no_shadow}
use Rattle.special_files.proofs.leaf.PutLeaf.{intended_meant, intended_part}
use Rattle.special_files.proofs.leaf.PutRun.{amid0, mine, node_is, not_root_node}
use Rattle.special_files.proofs.PutStore.{flags_of, the_draft}
use Rattle.special_files.proofs.leaf.Puts.{taken_not_free}
use Rattle.special_files.proofs.shrink.Shed.{IsRewritten, IsShort}
use Rattle.special_files.proofs.Trees.{node_at}

-- ---- claims taken back, in the middle of a step

module _ {D : Type 0} (g : Ghosts D) (graph : Graph) (ds : Drafts) (id : Puid) (o : Object) (start : D) (space : Kept) (store : StoreHas g graph ds start space) (at : object_at graph id ≡ Some o)
    (mid new : D) (kept : Kept) (ns : List ℕ) (amid : IsAmid g graph id start mid kept) (once : numbers_differ ns ≡ true)
    (meant : (v : ℕ) → has_number v ns ≡ true → is_meant_for (g.content mid) id.block v ≡ true) (no_root : (v : ℕ) → has_number v ns ≡ true → (e : MapEntry) → entry_in (g.content mid) v ≡ Some e → e.place ≢ Some Root) where
  abbrev middle : Image
  middle = g.content mid

  abbrev course : Course
  course = Frame middle graph

  abbrev after : Image
  after = mapped (turned (λ m. Undo) ns) middle

  may : MayTurn course middle (λ m. Undo) ns
  may v is =
      let t = (meant_is middle id.block v (meant v is)).taken in (
        t.is,
        t.here,
        may_take_back middle graph v t.is (meant_loose (g.content start) middle graph ds id o store.account at amid.only amid.carries.holds v (meant v is))
            (no_shadow (g.content start) middle graph ds id o store.account at amid.only t.is) (entry_in_table middle v t.is t.here) (no_root v is t.is t.here),
      )

  begins : IsOn course middle
  begins = frames_begin middle graph amid.carries.holds

  turns : IsMapped (turned (λ m. Undo) ns) middle after
  turns = turned_is course (λ m. Undo) amid.carries.holds ns middle begins may

  -- the rest stays
  pub undone_left : (v : ℕ) → has_number v ns ≡ false → entry_in after v ≡ entry_in middle v
  undone_left v not = mapped_stays (turned (λ m. Undo) ns) middle after (whole_on course (λ m. Undo) amid.carries.holds middle begins) turns v (λ e here. ap (λ (b : Bool). changed_if b Undo e) not)

  state : (v : ℕ) (e : MapEntry) → has_number v ns ≡ true → entry_in middle v ≡ Some e → (is_free_entry (Some e) ≡ false) × (is_free_entry (Some (undone e)) ≡ true)
  state v e is here =
      let m = meant_is middle id.block v (meant v is) in
      let state = ap (λ (x : MapEntry). x.state) (same_Some _ _ (sym here ∙ m.taken.here)) ∙ m.state in
      (meant_not_free e state, undone_free e state)

  pub now_free : (v : ℕ) → has_number v ns ≡ true → is_free_in after v ≡ true
  now_free v is =
      let t = (meant_is middle id.block v (meant v is)).taken in
      ap is_free_entry (turns.entries v t.is t.here ∙ ap (λ (b : Bool). Some (changed_if b Undo t.is)) is) ∙ (state v t.is is t.here).1

  only : ChangesOnly (λ e. of_draft id.block e) middle after
  only =
      let on = turned_on course (λ m. Undo) amid.carries.holds ns middle after begins may turns in
      record {
        size = on.size;
        maps = on.maps;
        own = on.own;
        label = on.label;
        fixed = on.fixed;
        entries = λ v. elim (cases_Bool (has_number v ns)) [
          | inl is ↦ inr (meant_open id.block (entry_in middle v) (meant v is), inl (now_free v is))
          | inr not ↦ inl (undone_left v not)
        ];
        contents = λ v loose. inl (turns.contents v (not_map v loose));
      }

  module _ (n t : ℕ) where
    pub undo_leaves : (r : Result (Unit {0}) Trouble) → Flips g n t Undo ns mid new r → Leaves g start new (λ c. Holds c graph)
    undo_leaves r f = amid_leaves g graph ds id o start space store at mid new kept amid (wider g mid new (IsOn course) (λ c. Holds c graph) (f.leaves course amid.carries.holds (keeps_frame g graph mid amid.carries) may)
        (λ c on. frames_hold middle c graph amid.carries.holds on))

    pub undo_sound : (r : Result (Unit {0}) Trouble) → Flips g n t Undo ns mid new r → IfErr r (λ e. is_damage e ≡ false)
    undo_sound r f = f.sound course amid.carries.holds (keeps_frame g graph mid amid.carries) may

    pub undone_is : Flips g n t Undo ns mid new (Ok tt) → g.content new ≡ mapped (turned (λ m. Undo) ns) (g.content mid)
    undone_is f = sym (mapped_is (turned (λ m. Undo) ns) middle (g.content new) (whole_on course (λ m. Undo) amid.carries.holds middle begins) (f.put course amid.carries.holds (keeps_frame g graph mid amid.carries) may))

    pub undone_amid : Flips g n t Undo ns mid new (Ok tt) → IsAmid g graph id start new (given_all kept ns)
    undone_amid f =
        let content = undone_is f in
        record {
          carries = carries_framed g middle graph new amid.carries.holds (f.keeps course amid.carries.holds (keeps_frame g graph mid amid.carries) may);
          counts = subst (λ (i : Image). AreCounts i (given_all kept ns)) (sym content) (counts_given_all course amid.carries.holds Undo ns middle kept once begins may amid.counts state);
          only = changes_then _ (g.content start) middle (g.content new) amid.only (subst (ChangesOnly (λ e. of_draft id.block e) middle) (sym content) only);
          leaves = undo_leaves (Ok tt) f;
        }

-- ---- the node of the first leaf

-- from image a to image b the node was written, if the leaf lies within one, and nothing else changed
pub record IsPut (a b : Image) (id : Puid) (d : Opened) (f y : ℕ) : Type 0 where
  pub size : length b ≡ length a
  pub entries : (v : ℕ) → (f % leaf_pointers.count ≢ 0 → v ≢ y) → entry_in b v ≡ entry_in a v
  pub contents : (v : ℕ) → v % 64 ≢ 0 → (f % leaf_pointers.count ≢ 0 → v ≢ y) → block_at b v ≡ block_at a v
  pub node : f % leaf_pointers.count ≢ 0 → IsRewritten a b id d (f / leaf_pointers.count) (f % leaf_pointers.count) y

pub put_none : (a : Image) (id : Puid) (d : Opened) (f y : ℕ) → f % leaf_pointers.count ≡ 0 → IsPut a a id d f y
put_none a id d f y whole = record { size = refl; entries = λ v apart. refl; contents = λ v real apart. refl; node = λ within. absurd (within whole) }

module _ {D : Type 0} {g : Ghosts D} {d0 : D} {k0 : Kept} {was : Drafting} (u : DraftView g d0 k0 was) (d1 : D) (k1 : Kept) (leaves : List ℕ) (f : ℕ) (most : f < leaf_limit) where
  abbrev a : Image
  a = g.content d0

  abbrev old : List ℕ
  old = root_spelling was.root

  abbrev n : ℕ
  n = f / leaf_pointers.count

  abbrev d : Opened
  d = opened_as was u.draft

  draft : HasDraft a u.id d
  draft = the_draft a u.ds u.id was u.draft u.opened (u.store.account.drafts u.id u.object u.at)

  tell : Tell (is_meant_for a u.id.block) (tree_in a old) was.leaves was.nodes
  tell = flags_of a u.ds u.id was u.draft u.opened draft

  start : IsAmid g u.graph u.id d0 d0 k0
  start = amid0 u d1 d1 k1 k1 leaves f most

  pub get_leaves : (result : Result BlockNo Refused) → GetsDraftNode g n d0 d1 k0 k1 was result → Leaves g d0 d1 (λ c. Holds c u.graph)
  get_leaves result (Had fresh same kept is) = subst (λ (e : D). Leaves g d0 e (λ c. Holds c u.graph)) (sym same) start.leaves
  get_leaves result (Claims stale gets) = claim_leaves g u.graph u.ds u.id u.object d0 k0 u.store u.at d0 d1 k0 k1 (intended (Node n) was.at) result start gets (node_is u d1 d1 k1 k1 leaves f most) (not_root_node n)

  -- the node has a block that is meant for it
  record Got (b : Image) (y : ℕ) : Type 0 where
    size : length b ≡ length a
    entries : (v : ℕ) → v ≢ y → entry_in b v ≡ entry_in a v
    contents : (v : ℕ) → v % 64 ≢ 0 → block_at b v ≡ block_at a v
    map : y % 64 ≢ 0
    below : y < length a
    meant : is_meant_for b u.id.block y ≡ true
    part : BelongsTo u.id.block (Node n) (part_at b y)
    was_there : (is_free_in a y ≡ true) ⊎ (tree_of a old (n ∷ []) ≡ y)
    stays : is_meant_for a u.id.block (tree_of a old (n ∷ [])) ≡ true → tree_of a old (n ∷ []) ≡ y

  got : (y : BlockNo) → GetsDraftNode g n d0 d1 k0 k1 was (Ok y) → IsAmid g u.graph u.id d0 d1 k1 × Got (g.content d1) y.0
  got y (Had fresh same kept is) =
      let y_is : y.0 ≡ pointer_to_node was.root n = (let e : y ≡ record { 0 = pointer_to_node was.root n } = cc in ap (λ (b : BlockNo). b.0) e) in
      let two = fresh_there a u.graph u.store.account.holds u.id u.object u.at (u.store.account.objects u.id u.object u.at) d draft (n ∷ []) (sym (tell.node n (omega (arith, most))) ∙ fresh) in
      let there : tree_of a old (n ∷ []) ≡ y.0 = node_at a was.root draft.tree.spelled.good.0 n ∙ sym y_is in
      let real : y.0 ≢ 0 = λ none. two.0 (there ∙ none) in
      let here = ap (held_at a) there ∙ held_there a y.0 real in
      let placed = tree_placed a (length a) u.id.block old was.root u.draft.object draft.tree (n ∷ []) (held a y.0) here in (
        subst (λ (e : D). IsAmid g u.graph u.id d0 e k1) (sym same) (subst (IsAmid g u.graph u.id d0 d0) (sym kept) start),
        subst (λ (e : D). Got (g.content e) y.0) (sym same) (record {
          size = refl;
          entries = λ v apart. refl;
          contents = λ v real. refl;
          map = not_map y.0 (taken_apart a u.graph u.store.account.holds y.0 u.id.block placed.taken);
          below = in_image a u.graph u.store.account.holds y.0 placed.taken.is placed.taken.here;
          meant = ap (is_meant_for a u.id.block) (sym there) ∙ two.1;
          part = subst (λ pl. BelongsTo u.id.block pl (part_at a y.0)) (node_place old n) (draft.tree.owned (n ∷ []) (held a y.0) here);
          was_there = inr there;
          stays = λ meant. there;
        }),
      )
  got y (Claims stale enters) =
      let is = node_is u d1 d1 k1 k1 leaves f most in
      let claim = claimed g u.graph u.ds u.id u.object d0 k0 u.store u.at d0 d1 k0 k1 (intended (Node n) was.at) (Ok y) start enters is (not_root_node n) y refl (mine u d1 d1 k1 k1 leaves f most (Node n)) in
      let free = claim.1.free in
      let was_free = free_is a y.0 free in
      let there : entry_in (g.content d1) y.0 ≡ Some (intended (Node n) u.id.block) = ap (λ (i : Image). entry_in i y.0) claim.2 ∙ entry_in-with_entry_same a y.0 (intended (Node n) was.at) was_free.0 was_free.1 is ∙ ap (λ (r : ℕ). Some (intended (Node n) r)) (sym u.opened.at) in
      let map : y.0 % 64 ≢ 0 = not_map y.0 (free_is_loose a u.graph u.store.account.holds y.0 was_free.0 was_free.1 was_free.2).apart in
      let below : y.0 < length a = in_image a u.graph u.store.account.holds y.0 was_free.0 was_free.1 in (
        claim.0,
        record {
          size = ap (length {A = List ℕ}) claim.2 ∙ length-with_entry a y.0 (intended (Node n) was.at);
          entries = λ v apart. ap (λ (i : Image). entry_in i v) claim.2 ∙ entry_in-with_entry_other a y.0 (intended (Node n) was.at) was_free.0 v was_free.1 apart;
          contents = λ v real. ap (λ (i : Image). block_at i v) claim.2 ∙ block_at-with_entry a y.0 (intended (Node n) was.at) v (λ e. real (omega (arith, e)));
          map = map;
          below = below;
          meant = intended_meant (g.content d1) y.0 u.id.block (Node n) there;
          part = intended_part (g.content d1) y.0 u.id.block (Node n) there;
          was_there = inl free;
          stays = λ meant. absurd (both_ways _ (unfresh a u.graph u.store.account.holds u.id u.object u.at (u.store.account.objects u.id u.object u.at) d draft (omega (arith, below)) (n ∷ []) (sym (tell.node n (omega (arith, most))) ∙ stale)) meant);
        },
      )

  module _ (y : BlockNo) (gets : GetsDraftNode g n d0 d1 k0 k1 was (Ok y)) (d2 : D) (node : List ℕ) where
    y_below : y.0 < length (g.content d1)
    y_below = let is = (got y gets).1 in omega (arith, is.below, is.size)

    pub put_leaves : (result : Result (Unit {0}) Refused) → WritesDraftBlock g y.0 node d1 d2 result → Leaves g d0 d2 (λ c. Holds c u.graph)
    put_leaves result writes = write_leaves g u.graph u.ds u.id u.object d0 k0 u.store u.at d1 d2 k1 y.0 node (got y gets).0 (got y gets).1.meant y_below writes.images

    module _ (writes : WritesDraftBlock g y.0 node d1 d2 (Ok (tt {0}))) where
      pub put_amid : IsAmid g u.graph u.id d0 d2 k1
      put_amid = wrote g u.graph u.ds u.id u.object d0 k0 u.store u.at d1 d2 k1 y.0 node (got y gets).0 (got y gets).1.meant y_below writes.images writes.written writes.told writes.calls.same

      pub put_small : y.0 < 2 ^ 32
      put_small = omega (arith, (got y gets).1.below, small_image a u.graph u.store.account.holds)

      entry : (v : ℕ) → entry_in (g.content d2) v ≡ entry_in (g.content d1) v
      entry v = ap (λ (i : Image). entry_in i v) writes.written ∙ entry_in-set (g.content d1) y.0 node v (got y gets).1.map

      content : block_at (g.content d2) y.0 ≡ node
      content = ap (λ (i : Image). block_at i y.0) writes.written ∙ get_or-set_same (g.content d1) y.0 node [] y_below

      pub put_claims : GetsDraftNode g n d0 d1 k0 k1 was (Ok y) → AreClaimed (node_claims was.at was.nodes n) a (g.content d2)
      put_claims (Had fresh same kept is) = rw fresh (λ v. entry v ∙ ap (λ (d : D). entry_in (g.content d) v) same)
      put_claims (Claims stale enters) =
          let is = node_is u d1 d1 k1 k1 leaves f most in
          let claim = claimed g u.graph u.ds u.id u.object d0 k0 u.store u.at d0 d1 k0 k1 (intended (Node n) was.at) (Ok y) start enters is (not_root_node n) y refl (mine u d1 d1 k1 k1 leaves f most (Node n)) in
          rw stale (g.content d1, claimed_by _ a (g.content d1) y.0 is claim.1 claim.2, entry)

      pub put_is : f % leaf_pointers.count ≢ 0 → leaves ≡ leaves_at a (pointer_to_node was.root n) → ((j : ℕ) → j < f % leaf_pointers.count → pointer leaf_pointers node j ≡ slice_index leaves j) → ((j : ℕ) → f % leaf_pointers.count ≤ j → pointer leaf_pointers node j ≡ 0)
          → (j : ℕ) × (j < f % leaf_pointers.count) × (slice_index leaves j ≢ 0) → IsPut a (g.content d2) u.id d f y.0
      put_is within read kept past one =
          let is = (got y gets).1 in
          let long : length (g.content d2) ≡ length (g.content d1) = ap (length {A = List ℕ}) writes.written ∙ length-set (g.content d1) y.0 node in
          let leaf = λ (j : ℕ). read_leaf_is a was.root draft.tree.spelled.good.0 n j leaves read in
          record {
            size = long ∙ is.size;
            entries = λ v apart. entry v ∙ is.entries v (apart within);
            contents = λ v real apart. ap (λ (i : Image). block_at i v) writes.written ∙ get_or-set_other (g.content d1) y.0 v node [] (apart within) ∙ is.contents v real;
            node = λ w. record {
              some = λ none. is.map (omega (arith, none));
              below = omega (arith, y_below, long);
              meant = ap (is_owned_by is_meant u.id.block) (entry y.0) ∙ is.meant;
              part = subst (BelongsTo u.id.block (Node n)) (ap part_of (sym (entry y.0))) is.part;
              was = is.was_there;
              stays = is.stays;
              kept = λ j early. ap (λ (c : List ℕ). pointer leaf_pointers c j) content ∙ kept j early ∙ sym (leaf j);
              past = λ j late. ap (λ (c : List ℕ). pointer leaf_pointers c j) content ∙ past j late;
              one = (one.0, one.1, λ none. one.2 (sym (leaf one.0) ∙ none));
            };
          }

-- ---- and then the claims taken back

module _ {D : Type 0} {g : Ghosts D} {d0 d2 : D} {k0 k2 : Kept} {was : Drafting} {f y : ℕ} {ns : List ℕ} (u : DraftView g d0 k0 was) (amid : IsAmid g u.graph u.id d0 d2 k2)
    (put : IsPut (g.content d0) (g.content d2) u.id (opened_as was u.draft) f y) (shed : AreShed (g.content d0) u.id (opened_as was u.draft) f ns) (d3 : D) (n t : ℕ) where
  abbrev base : Image
  base = g.content d0

  abbrev b : Image
  b = g.content d2

  abbrev mine_d : Opened
  mine_d = opened_as was u.draft

  base_draft : HasDraft base u.id mine_d
  base_draft = the_draft base u.ds u.id was u.draft u.opened (u.store.account.drafts u.id u.object u.at)

  -- the node's block is none of them
  not_y : (v : ℕ) → IsShed base u.id mine_d f v → f % leaf_pointers.count ≢ 0 → v ≢ y
  not_y v is within same =
      let node = put.node within in
      elim node.was [
        | inl free ↦ taken_not_free base v u.id.block (meant_is base u.id.block v is.meant).taken (subst (λ (k : ℕ). is_free_in base k ≡ true) (sym same) free)
        | inr there ↦
            let path : is.path ≡ f / leaf_pointers.count ∷ [] = one_path base (length base) u.id.block (content_of mine_d) was.root u.draft.object base_draft.tree is.path (f / leaf_pointers.count ∷ []) (held base y) (held base y) (ap (held_at base) (is.there ∙ same) ∙ held_there base y node.some) (ap (held_at base) there ∙ held_there base y node.some) refl in
            omega (arith, within, subst (IsPathPast f) path is.past)
      ]

  same_entry : (v : ℕ) → IsShed base u.id mine_d f v → entry_in b v ≡ entry_in base v
  same_entry v is = put.entries v (not_y v is)

  meant : (v : ℕ) → has_number v ns ≡ true → is_meant_for b u.id.block v ≡ true
  meant v has = let is = shed.each v has in ap (is_owned_by is_meant u.id.block) (same_entry v is) ∙ is.meant

  no_root : (v : ℕ) → has_number v ns ≡ true → (e : MapEntry) → entry_in b v ≡ Some e → e.place ≢ Some Root
  no_root v has e here root =
      let is = shed.each v has in
      let real : v ≢ 0 = λ none. not_map v (taken_apart base u.graph u.store.account.holds v u.id.block (meant_is base u.id.block v is.meant).taken) (omega (arith, none)) in
      let inner = tree_inner base (length base) u.id.block (content_of mine_d) was.root u.draft.object base_draft.tree v (record { path = is.path; held = held base v; there = ap (held_at base) is.there ∙ held_there base v real; is = refl }) in
      inner.no_root (ap (λ (x : MapEntry). x.place) (same_Some _ _ (sym inner.taken.here ∙ sym (same_entry v is) ∙ here)) ∙ root)

  pub shed_leaves : (r : Result (Unit {0}) Trouble) → Flips g n t Undo ns d2 d3 r → Leaves g d0 d3 (λ c. Holds c u.graph)
  shed_leaves r f = undo_leaves g u.graph u.ds u.id u.object d0 k0 u.store u.at d2 d3 k2 ns amid shed.once meant no_root n t r f

  pub shed_sound : (r : Result (Unit {0}) Trouble) → Flips g n t Undo ns d2 d3 r → IfErr r (λ e. is_damage e ≡ false)
  shed_sound r f = undo_sound g u.graph u.ds u.id u.object d0 k0 u.store u.at d2 d3 k2 ns amid shed.once meant no_root n t r f

  module _ (flips_done : Flips g n t Undo ns d2 d3 (Ok tt)) where
    pub shed_amid : IsAmid g u.graph u.id d0 d3 (given_all k2 ns)
    shed_amid = undone_amid g u.graph u.ds u.id u.object d0 k0 u.store u.at d2 d3 k2 ns amid shed.once meant no_root n t flips_done

    at_end : g.content d3 ≡ mapped (turned (λ m. Undo) ns) b
    at_end = undone_is g u.graph u.ds u.id u.object d0 k0 u.store u.at d2 d3 k2 ns amid shed.once meant no_root n t flips_done

    block_end : (v : ℕ) → v % 64 ≢ 0 → block_at (g.content d3) v ≡ block_at b v
    block_end v real = ap (λ (i : Image). block_at i v) at_end ∙ block_at-mapped (turned (λ m. Undo) ns) b v real

    entry_left : (v : ℕ) → has_number v ns ≡ false → entry_in (g.content d3) v ≡ entry_in b v
    entry_left v not = ap (λ (i : Image). entry_in i v) at_end ∙ undone_left g u.graph u.ds u.id u.object d0 k0 u.store u.at d2 d3 k2 ns amid shed.once meant no_root v not

    long_end : length (g.content d3) ≡ length b
    long_end = ap (length {A = List ℕ}) at_end ∙ length-mapped (turned (λ m. Undo) ns) b

    pub shed_order : (es : List MapEntry) → AreClaimed es base b → ClaimsAndDrops u.id.block es base (g.content d3)
    shed_order es claims = record {
      mid = b;
      claimed = claims;
      left = λ v. elim (cases_Bool (has_number v ns)) [
        | inl has ↦ inr (meant v has, ap (λ (i : Image). is_free_in i v) at_end ∙ now_free g u.graph u.ds u.id u.object d0 k0 u.store u.at d2 d3 k2 ns amid shed.once meant no_root v has)
        | inr not ↦ inl (entry_left v not)
      ];
    }

    pub shed_short : IsShort base (g.content d3) u.id mine_d f y
    shed_short = record {
      size = long_end ∙ put.size;
      each = λ v apart. elim (cases_Bool (has_number v ns)) [
        | inl has ↦ inl (shed.each v has)
        | inr not ↦ inr (entry_left v not ∙ put.entries v apart)
      ];
      freed = λ v is. free_unowned is_meant refl u.id.block (entry_in (g.content d3) v)
          (ap (λ (i : Image). is_free_in i v) at_end ∙ now_free g u.graph u.ds u.id u.object d0 k0 u.store u.at d2 d3 k2 ns amid shed.once meant no_root v (shed.all v is));
      contents = λ v real apart. block_end v real ∙ put.contents v real apart;
      node = λ within.
          let node = put.node within in
          let mine_not : has_number y ns ≡ false = false_from_ne_true _ (λ has. not_y y (shed.each y has) within refl) in
          let here : entry_in (g.content d3) y ≡ entry_in b y = entry_left y mine_not in
          let real : y % 64 ≢ 0 = not_map y (taken_apart b u.graph amid.carries.holds y u.id.block (meant_is b u.id.block y node.meant).taken) in
          record {
            some = node.some;
            below = omega (arith, node.below, long_end);
            meant = ap (is_owned_by is_meant u.id.block) here ∙ node.meant;
            part = subst (BelongsTo u.id.block (Node (f / leaf_pointers.count))) (ap part_of (sym here)) node.part;
            was = node.was;
            stays = node.stays;
            kept = λ j early. ap (λ (c : List ℕ). pointer leaf_pointers c j) (block_end y real) ∙ node.kept j early;
            past = λ j late. ap (λ (c : List ℕ). pointer leaf_pointers c j) (block_end y real) ∙ node.past j late;
            one = node.one;
          };
    }
