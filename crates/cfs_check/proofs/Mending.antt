-- What is written as a volume is mended leaves an image that is mended to the same.
use Rattle.std.proofs.Common.{◌≡◌, ◌≢◌, ◌⊎◌, inl, inr, ⊎_elim, ℕ, ◌*◌, ◌%◌, ◌<◌, ◌≤◌, Bool, true, false, ◌&&◌, cond, if◌then◌else◌, ◌==◌, List, [], ◌∷◌, length, length-set, set, Option, Some, None, refl, sym, ◌∙◌, ap, subst, arith, get_or-set_other, get_or-set_same}
use Rattle.std.specs.List.{range_with_len}
use Rattle.std.specs.Prelude.{filter}
use Rattle.std.proofs.Math.Path.{fun_ext}
use Rattle.std.proofs.lemmas.Bool.{cases_eq}
use Rattle.std.proofs.lemmas.Bool.Decides.{nat_tests}
use Rattle.cfs_base.specs.Disk.{Image, block_at}
use Rattle.cfs_base.specs.declared.identifier.Puid.{Puid}
use Rattle.cfs_base.specs.declared.kind.Place.TheVariants as places
use Rattle.block_tree.specs.Root.{IsRootBlock}
use Rattle.block_tree.specs.declared.root.Root.{Root}
use Rattle.cyl_map.proofs.Volumes.{entry_in-set}
use Rattle.cyl_map.specs.declared.entry.MapEntry.{MapEntry}
use Rattle.cyl_map.specs.declared.state.BlockState.{BlockState}
use Rattle.cyl_map.specs.declared.state.BlockState.TheVariants.{Free, Allocated, IntendAllocate, IntendDeallocate}
use Rattle.cyl_map.specs.Map.{entry_at}
use Rattle.cyl_map.specs.Volume.{map_of}
unfoldable use Rattle.cyl_map.specs.Volume.{entry_in}
use Rattle.ufs_model.specs.declared.object.Object.{Object}
use Rattle.ufs_model.specs.Graph.{Graph, object_at}
use Rattle.ufs_model.specs.Numbers.{has_number}
use Rattle.vol_image.proofs.Parts.{IsPlaced, in_image, root_placed, shadow_entry, shadow_taken, taken_apart, taken_part}
use Rattle.vol_image.proofs.Rising.{here, in_filter}
use Rattle.vol_image.proofs.Steps.{entry_mixed, not_map}
use Rattle.vol_image.specs.Fault.{has_own_bit, one_or, reader, shown_root}
unfoldable use Rattle.vol_image.specs.Fault.{standing}
use Rattle.vol_image.specs.Part.{EntryPart, is_fixed, part_at, part_of, stands_for}
unfoldable use Rattle.vol_image.specs.Sight.{sight}
use Rattle.vol_image.specs.Sound.{IsSoundAs, ReadsAs}
use Rattle.cfs_recover.specs.Recovered.{IsClean}
use Rattle.cfs_check.specs.Mended.{IsReadByOne, IsRootOf, MendsTo}
use Rattle.cfs_check.specs.Repair.{HasRoots}
use Rattle.cfs_check.specs.Sized.{AreSized}

-- ---- shadow roots that stand

abbrev stand : ℕ → ℕ → (ℕ → Option MapEntry) → List ℕ
stand r size entry = if has_own_bit r (part_of (entry r)) then filter (λ n. stands_for r (entry n)) (range_with_len 0 size) else []

-- they are told by the entries
standing_same : (a b : Image) (r : ℕ) → length b ≡ length a → ((n : ℕ) → entry_in b n ≡ entry_in a n) → standing b r ≡ standing a r
unfolding standing
standing_same a b r size same = λ i. stand r (size i) (fun_ext same i)

-- one that is alone
alone : (a : Image) (r s : ℕ) → standing a r ≡ s ∷ [] → (has_own_bit r (part_at a r) ≡ true) × (stands_for r (entry_in a s) ≡ true)
unfolding standing
alone a r s is = elim (has_own_bit r (part_at a r)) as (λ b. (if b then filter (λ n. stands_for r (entry_in a n)) (range_with_len 0 (length a)) else []) ≡ s ∷ [] → (b ≡ true) × (stands_for r (entry_in a s) ≡ true)) [
  | true ↦ λ q. (refl, (in_filter (λ n. stands_for r (entry_in a n)) s (range_with_len 0 (length a)) (ap (has_number s) q ∙ here s [])).0)
  | false ↦ λ q. cc
] is

read_by : (ss : List ℕ) (r : ℕ) → (one_or r ss ≡ r) ⊎ ((s : ℕ) × (ss ≡ s ∷ []) × (one_or r ss ≡ s))
read_by [] r = inl refl
read_by (s ∷ []) r = inr (s, refl, refl)
read_by (s ∷ t ∷ ss) r = inl refl

-- fewer stand where fewer pass
none_passes : (P Q : ℕ → Bool) (ns : List ℕ) → ((n : ℕ) → Q n ≡ true → P n ≡ true) → filter P ns ≡ [] → filter Q ns ≡ []
none_passes P Q [] less none = refl
none_passes P Q (n ∷ ns) less none = elim (Q n) as (λ b. Q n ≡ b → cond b (n ∷ filter Q ns) (filter Q ns) ≡ []) [
  | true ↦ λ is. let no : n ∷ filter P ns ≡ [] = ap (λ (b : Bool). cond b (n ∷ filter P ns) (filter P ns)) (sym (less n is)) ∙ none in cc
  | false ↦ λ is. elim (P n) as (λ b. cond b (n ∷ filter P ns) (filter P ns) ≡ [] → filter Q ns ≡ []) [
    | true ↦ λ no. cc
    | false ↦ λ none. none_passes P Q ns less none
  ] none
] refl

fewer_pass : (P Q : ℕ → Bool) (ns : List ℕ) → ((n : ℕ) → Q n ≡ true → P n ≡ true) → length (filter P ns) ≤ 1 → (filter Q ns ≡ []) ⊎ (filter Q ns ≡ filter P ns)
fewer_pass P Q [] less few = inl refl
fewer_pass P Q (n ∷ ns) less few = elim (P n) as (λ p. P n ≡ p → length (cond p (n ∷ filter P ns) (filter P ns)) ≤ 1
    → (cond (Q n) (n ∷ filter Q ns) (filter Q ns) ≡ []) ⊎ (cond (Q n) (n ∷ filter Q ns) (filter Q ns) ≡ cond p (n ∷ filter P ns) (filter P ns))) [
      | true ↦ λ is one.
          let rest : filter P ns ≡ [] = no_more (filter P ns) (omega arith) in
          let rest_too : filter Q ns ≡ [] = none_passes P Q ns less rest in
          elim (Q n) as (λ q. (cond q (n ∷ filter Q ns) (filter Q ns) ≡ []) ⊎ (cond q (n ∷ filter Q ns) (filter Q ns) ≡ n ∷ filter P ns)) [
            | true ↦ inr (ap (λ (x : List ℕ). n ∷ x) (rest_too ∙ sym rest))
            | false ↦ inl rest_too
          ]
      | false ↦ λ is one. elim (Q n) as (λ q. Q n ≡ q → (cond q (n ∷ filter Q ns) (filter Q ns) ≡ []) ⊎ (cond q (n ∷ filter Q ns) (filter Q ns) ≡ filter P ns)) [
        | true ↦ λ yes. let no : true ≡ false = sym (less n yes) ∙ is in cc
        | false ↦ λ no. fewer_pass P Q ns less one
      ] refl
    ] refl few
  where
    no_more : (xs : List ℕ) → length xs ≤ 0 → xs ≡ []
    no_more [] none = refl
    no_more (x ∷ xs) none = absurd (omega arith)

pub standing_none : (a : Image) (r : ℕ) → has_own_bit r (part_at a r) ≡ false → standing a r ≡ []
unfolding standing
standing_none a r off = ap (λ (t : Bool). if t then filter (λ n. stands_for r (entry_in a n)) (range_with_len 0 (length a)) else []) off

root_of : (b : Image) (id : Puid) (o : Object) (reads : ReadsAs (length b) id (sight b id.block) o) → IsRootBlock (block_at b id.block) reads.root
unfolding sight
root_of b id o reads = reads.spelled

-- ---- a clean image

not_intended : (r : ℕ) (e : MapEntry) (s : BlockState) → e.state ≡ s → s ≡ Allocated → ¬ (stands_for r (Some (record e { state = s })) ≡ true)
not_intended r e Free is at h = cc
not_intended r e Allocated is at h = cc
not_intended r e IntendAllocate is at h = cc
not_intended r e IntendDeallocate is at h = cc

module _ (b : Image) (g : Graph) (sound : IsSoundAs b g) (clean : IsClean b g) where
  -- no shadow root stands
  none_stands : (r n : ℕ) → ¬ (stands_for r (entry_in b n) ≡ true)
  none_stands r n h =
      let placed = shadow_taken b r n h in
      let e = placed.taken.is in
      let is = placed.taken.here in
      placed.taken.taken (ap (λ (x : MapEntry). x.state) (clean.free n e is (taken_apart b g sound.holds n r placed.taken) (λ held. not_intended r e e.state refl (clean.held n e is held).0 (ap (stands_for r) (sym is) ∙ h))))

  module _ (id : Puid) (o : Object) (at : object_at g id ≡ Some o) where
    rooted : IsPlaced b id.block id.block places.Root
    rooted = root_placed b (length b) id o (sound.holds.objects id o at)

    pub root_apart : is_fixed id.block ≡ false
    root_apart = taken_apart b g sound.holds id.block id.block rooted.taken

    pub root_inside : id.block < length b
    root_inside = in_image b g sound.holds id.block rooted.taken.is rooted.taken.here

    -- and no commit bit
    pub no_bit : has_own_bit id.block (part_at b id.block) ≡ false
    no_bit =
        let e = rooted.taken.is in
        let tidy = clean.held id.block e rooted.taken.here (record { id = id; object = o; there = at; here = inl refl }) in
        ap (λ (x : Option MapEntry). has_own_bit id.block (part_of x)) rooted.taken.here ∙ ap (has_own_bit id.block) (taken_part e.state e.committed e.place e.owner rooted.taken.taken)
        ∙ ap (λ (t : Bool). has_own_bit id.block (Some (record { committed = t; place = e.place; owner = e.owner }))) tidy.1

-- ---- a root is written

owned_by : (t : Bool) (owner r : ℕ) → (t && (owner == r)) ≡ true → owner ≡ r
owned_by t owner r h = grind (arith, nat_tests)

module _ (c : Image) (g : Graph) (b : Image) (mends : MendsTo c g b) (id : Puid) (o : Object) (at : object_at g id ≡ Some o) where
  abbrev put : Image
  put = set c id.block (block_at b id.block)

  no_map : id.block % 64 ≢ 0
  no_map = not_map id.block (root_apart b g mends.sound mends.clean id o at)

  entries : (n : ℕ) → entry_in put n ≡ entry_in c n
  entries n = entry_in-set c id.block (block_at b id.block) n no_map

  size : length put ≡ length c
  size = length-set c id.block (block_at b id.block)

  stands_still : (r : ℕ) → standing put r ≡ standing c r
  stands_still r = standing_same c put r size entries

  inside : id.block < length c
  inside = let below = root_inside b g mends.sound mends.clean id o at in omega (arith, below, mends.size)

  written : block_at put id.block ≡ block_at b id.block
  written = get_or-set_same c id.block (block_at b id.block) [] inside

  others : (n : ℕ) → n ≢ id.block → block_at put n ≡ block_at c n
  others n other = get_or-set_other c id.block n (block_at b id.block) [] other

  -- A root that is a shadow root of another object is read by itself.
  by_itself : (r : ℕ) → r ≢ id.block → reader c r ≡ id.block → reader c id.block ≡ id.block
  by_itself r apart is = ⊎_elim (λ own. absurd (apart (sym own ∙ is))) (λ shadow. of_another shadow.0 shadow.1 (sym shadow.2 ∙ is)) (read_by (standing c r) r)
    where
      of_another : (s : ℕ) → standing c r ≡ s ∷ [] → s ≡ id.block → reader c id.block ≡ id.block
      of_another s one same = ⊎_elim (λ own. own) (λ mine. absurd (both mine.0 mine.1)) (read_by (standing c id.block) id.block)
        where
          both : (t : ℕ) → ¬ (standing c id.block ≡ t ∷ [])
          both t mine =
              let placed = shadow_taken c r id.block (subst (λ (n : ℕ). stands_for r (entry_in c n) ≡ true) same (alone c r s one).1) in
              let e = placed.taken.is in
              let bit : has_own_bit id.block (Some (record { committed = e.committed; place = e.place; owner = e.owner })) ≡ true =
              ap (has_own_bit id.block) (sym (taken_part e.state e.committed e.place e.owner placed.taken.taken)) ∙ ap (λ (x : Option MapEntry). has_own_bit id.block (part_of x)) (sym placed.taken.here) ∙ (alone c id.block t mine).0
              in
              apart (sym placed.taken.owned ∙ owned_by e.committed e.owner id.block bit)

  -- what the roots of other objects show
  shows_on : (r : ℕ) (content : List ℕ) → shown_root c r ≡ content → (r ≡ id.block → content ≡ block_at b id.block) → shown_root put r ≡ content
  shows_on r content is mine = elim (cases_eq r id.block) [
    | inl same ↦ elim (cases_eq (reader c r) id.block) [
      | inl read ↦ from_reader ∙ ap (block_at put) read ∙ written ∙ sym (mine same)
      | inr apart ↦ from_reader ∙ others (reader c r) apart ∙ is
    ]
    | inr other ↦ elim (cases_eq (reader c r) id.block) [
      | inl read ↦ from_reader ∙ ap (block_at put) read ∙ written ∙ sym (mends.roots id o at).shown ∙ ap (block_at c) (by_itself r other read) ∙ sym (ap (block_at c) read) ∙ is
      | inr apart ↦ from_reader ∙ others (reader c r) apart ∙ is
    ]
  ]
    where
      from_reader : shown_root put r ≡ block_at put (reader c r)
      from_reader = ap (λ (ss : List ℕ). block_at put (one_or r ss)) (stands_still r)

  read_on : (x : Puid) (p : Object) → object_at g x ≡ Some p → IsReadByOne put x (block_at b x.block)
  read_on x p there =
      let was = mends.roots x p there in
      let one : length (standing put x.block) ≤ 1 = subst (λ (ss : List ℕ). length ss ≤ 1) (sym (stands_still x.block)) was.one in
      let shown : shown_root put x.block ≡ block_at b x.block = shows_on x.block (block_at b x.block) was.shown (λ same. ap (block_at b) same) in
      elim (cases_eq x.block id.block) [
        | inl same ↦ record {
          one = one;
          own = was.root;
          root = was.root;
          own_spelled = subst (λ (content : List ℕ). IsRootBlock content was.root) (sym (ap (block_at put) same ∙ written ∙ sym (ap (block_at b) same))) was.spelled;
          spelled = was.spelled;
          same = record { kind = refl; word = refl };
          shown = shown;
        }
        | inr other ↦ record {
          one = one;
          own = was.own;
          root = was.root;
          own_spelled = subst (λ (content : List ℕ). IsRootBlock content was.own) (sym (others x.block other)) was.own_spelled;
          spelled = was.spelled;
          same = was.same;
          shown = shown;
        }
      ]

  pub mends_root : MendsTo put g b
  mends_root = record {
    size = mends.size ∙ sym size;
    whole = mends.whole;
    sound = mends.sound;
    clean = mends.clean;
    roots = read_on;
    others = λ n apart unrooted. mends.others n apart unrooted ∙ sym (others n (λ same. unrooted (id, o, at, sym same)));
  }

-- ---- a map is written, once the roots are

module _ (c : Image) (g : Graph) (b : Image) (mends : MendsTo c g b) (copied : HasRoots c g b) (j : ℕ) (below : 64 * j < length c) where
  abbrev with_map : Image
  with_map = set c (64 * j) (block_at b (64 * j))

  apart_from_map : (n : ℕ) → n % 64 ≢ 0 → n ≢ 64 * j
  apart_from_map n apart same = apart (omega (arith, same))

  kept : (n : ℕ) → n ≢ 64 * j → block_at with_map n ≡ block_at c n
  kept n other = get_or-set_other c (64 * j) n (block_at b (64 * j)) [] other

  same_size : length with_map ≡ length c
  same_size = length-set c (64 * j) (block_at b (64 * j))

  -- what stands stood before
  stood : (r n : ℕ) → stands_for r (entry_in with_map n) ≡ true → entry_in with_map n ≡ entry_in c n
  stood r n h = elim (entry_mixed c b (64 * j) n) [
    | inl is ↦ is
    | inr is ↦ absurd (none_stands b g mends.sound mends.clean r n (ap (stands_for r) (sym is) ∙ h))
  ]

  from_map : (n : ℕ) → n ≡ 64 * j → entry_in with_map n ≡ entry_in b n
  unfolding entry_in
  from_map n same =
      let first : map_of n ≡ 64 * j = omega (arith, same) in
      ap (λ (x : List ℕ). entry_at x (n % 64)) (ap (block_at with_map) first ∙ get_or-set_same c (64 * j) (block_at b (64 * j)) [] below ∙ sym (ap (block_at b) first))

  -- the map's own block doesn't
  not_the_map : (r n : ℕ) → stands_for r (entry_in with_map n) ≡ true → n ≢ 64 * j
  not_the_map r n h same = none_stands b g mends.sound mends.clean r n (ap (stands_for r) (sym (from_map n same)) ∙ h)

  module _ (x : Puid) (p : Object) (there : object_at g x ≡ Some p) where
    apart : x.block % 64 ≢ 0
    apart = not_map x.block (root_apart b g mends.sound mends.clean x p there)

    own_kept : block_at with_map x.block ≡ block_at c x.block
    own_kept = kept x.block (apart_from_map x.block apart)

    fewer_stand : (standing with_map x.block ≡ []) ⊎ (standing with_map x.block ≡ standing c x.block)
    unfolding standing
    fewer_stand = elim (entry_mixed c b (64 * j) x.block) [
      | inr is ↦ inl (ap (λ (t : Bool). if t then filter (λ n. stands_for x.block (entry_in with_map n)) (range_with_len 0 (length with_map)) else []) (ap (λ (e : Option MapEntry). has_own_bit x.block (part_of e)) is ∙ no_bit b g mends.sound mends.clean x p there))
      | inl is ↦
          let bit : has_own_bit x.block (part_at with_map x.block) ≡ has_own_bit x.block (part_at c x.block) = ap (λ (e : Option MapEntry). has_own_bit x.block (part_of e)) is in
          let now : standing with_map x.block ≡ (if has_own_bit x.block (part_at c x.block) then filter (λ n. stands_for x.block (entry_in with_map n)) (range_with_len 0 (length c)) else []) =
          λ i. if bit i then filter (λ n. stands_for x.block (entry_in with_map n)) (range_with_len 0 (same_size i)) else []
          in
          ⊎_elim (λ none. inl (now ∙ none)) (λ same. inr (now ∙ same)) (by_bit (has_own_bit x.block (part_at c x.block)) refl)
    ]
      where
        by_bit : (t : Bool) → has_own_bit x.block (part_at c x.block) ≡ t → ((if t then filter (λ n. stands_for x.block (entry_in with_map n)) (range_with_len 0 (length c)) else []) ≡ [])
            ⊎ ((if t then filter (λ n. stands_for x.block (entry_in with_map n)) (range_with_len 0 (length c)) else []) ≡ (if t then filter (λ n. stands_for x.block (entry_in c n)) (range_with_len 0 (length c)) else []))
        by_bit false off = inl refl
        by_bit true on = fewer_pass (λ n. stands_for x.block (entry_in c n)) (λ n. stands_for x.block (entry_in with_map n)) (range_with_len 0 (length c))
            (λ n h. ap (stands_for x.block) (sym (stood x.block n h)) ∙ h)
            (subst (λ (t : Bool). length (if t then filter (λ n. stands_for x.block (entry_in c n)) (range_with_len 0 (length c)) else []) ≤ 1) on (mends.roots x p there).one)

    shown_on : shown_root with_map x.block ≡ block_at b x.block
    shown_on = elim fewer_stand [
      | inl none ↦ ap (λ (ss : List ℕ). block_at with_map (one_or x.block ss)) none ∙ own_kept ∙ copied x p there
      | inr same ↦ ap (λ (ss : List ℕ). block_at with_map (one_or x.block ss)) same ∙ (elim (read_by (standing c x.block) x.block) [
        | inl own ↦ ap (block_at with_map) own ∙ own_kept ∙ copied x p there
        | inr shadow ↦ ap (block_at with_map) shadow.2 ∙ kept shadow.0 (not_the_map x.block shadow.0 (alone with_map x.block shadow.0 (same ∙ shadow.1)).1) ∙ sym (ap (block_at c) shadow.2) ∙ (mends.roots x p there).shown
      ])
    ]

    one_stands : length (standing with_map x.block) ≤ 1
    one_stands = elim fewer_stand [
      | inl none ↦ subst (λ (ss : List ℕ). length ss ≤ 1) (sym none) (omega arith)
      | inr same ↦ subst (λ (ss : List ℕ). length ss ≤ 1) (sym same) (mends.roots x p there).one
    ]

    map_read : IsReadByOne with_map x (block_at b x.block)
    map_read = let was = mends.roots x p there in record {
      one = one_stands;
      own = was.own;
      root = was.root;
      own_spelled = subst (λ (content : List ℕ). IsRootBlock content was.own) (sym own_kept) was.own_spelled;
      spelled = was.spelled;
      same = was.same;
      shown = shown_on;
    }

  pub mends_map : MendsTo with_map g b
  mends_map = record {
    size = mends.size ∙ sym same_size;
    whole = mends.whole;
    sound = mends.sound;
    clean = mends.clean;
    roots = map_read;
    others = λ n away unrooted. mends.others n away unrooted ∙ sym (kept n (apart_from_map n away));
  }

  pub map_has_roots : HasRoots with_map g b
  map_has_roots x p there = own_kept x p there ∙ copied x p there

-- a sound volume that is clean is mended to itself
pub mends_itself : (b : Image) (g : Graph) → AreSized b → IsSoundAs b g → IsClean b g → MendsTo b g b
mends_itself b g whole sound clean = record {
  size = refl;
  whole = whole;
  sound = sound;
  clean = clean;
  roots = λ id o at.
      let reads = sound.holds.objects id o at in
      let none : standing b id.block ≡ [] = no_shadow id o at in
      record {
        one = subst (λ (ss : List ℕ). length ss ≤ 1) (sym none) (omega arith);
        own = reads.root;
        root = reads.root;
        own_spelled = own_root id o reads;
        spelled = own_root id o reads;
        same = record { kind = refl; word = refl };
        shown = ap (λ (ss : List ℕ). block_at b (one_or id.block ss)) none;
      };
  others = λ n apart unrooted. refl;
}
  where
    no_shadow : (id : Puid) (o : Object) → object_at g id ≡ Some o → standing b id.block ≡ []
    no_shadow id o at = standing_none b id.block (no_bit b g sound clean id o at)

    own_root : (id : Puid) (o : Object) (reads : ReadsAs (length b) id (sight b id.block) o) → IsRootBlock (block_at b id.block) reads.root
    own_root id o reads = root_of b id o reads
