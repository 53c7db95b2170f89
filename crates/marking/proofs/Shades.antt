-- Shading keeps what holds of a collection that marks, where what is shaded was reached.
use Rattle.std.proofs.Common.{◌≡◌, ◌⊎◌, inl, inr, ℕ, ◌==◌, List, [], ◌∷◌, refl, sym, ◌∙◌, ap, subst, arith, true, false, cond, ◌||◌, Option, Some, None}
use Rattle.marking.proofs.Words.{IsDirectoryOf, AreOnce, Colours, IsColoured, IsCovered, IsGrey, IsLeft, IsMarked, IsToRead, IsWaiting, Kind, Owed, Puid, Rescue, State, all_shaded, eq-eqb, eqb-true, is_among, is_found, is_index, is_live, is_there, kind_at, kind_among, object_at, or_cases, or_left, or_right, same_Some, same_puid, same_puid_is, same_puid_itself, shaded, shaded_as, shaded_in}
use Rattle.cfs_base.specs.declared.kind.Kind.TheVariants as kinds
use Rattle.marking.proofs.Wells.{IsWell}
use Rattle.marking.proofs.Wells.{found_kind}
use Rattle.marking.proofs.Reaches.{WasReached}
use Rattle.marking.proofs.Leaves.{kind_there, there_kind}

-- ---- colours that only grow

pub record IsMore (c d : Colours) : Type 0 where
  pub marks : (b : ℕ) → c.marked b ≡ true → d.marked b ≡ true
  pub to_read : (from : Option Puid) (leaf : ℕ) → IsToRead c.grey from leaf → IsToRead d.grey from leaf

pub more_itself : (c : Colours) → IsMore c c
more_itself c = record { marks = λ b h. h; to_read = λ from leaf h. h }

pub more_then : (c d e : Colours) → IsMore c d → IsMore d e → IsMore c e
more_then c d e one two = record { marks = λ b h. two.marks b (one.marks b h); to_read = λ from leaf h. two.to_read from leaf (one.to_read from leaf h) }

pub covered_more : (c d : Colours) (waiting : List Rescue) (from : Option Puid) (leaf : ℕ) (x : Puid) → IsMore c d → IsCovered c waiting from leaf x → IsCovered d waiting from leaf x
covered_more c d waiting from leaf x more (IsMarked m) = IsMarked (more.marks x.block m)
covered_more c d waiting from leaf x more (IsWaiting w) = IsWaiting w
covered_more c d waiting from leaf x more (IsLeft l) = IsLeft (more.to_read from leaf l)

-- ---- an object that wasn't marked

abbrev pub coloured : Puid → Kind → Colours → Colours
coloured id kind c = record {
  marked = λ block. (block == id.block) || c.marked block;
  grey = cond (is_index kind) (record { id = id; cursor = 0 } ∷ c.grey) c.grey;
}

pub colour_more : (id : Puid) (kind : Kind) (c : Colours) → IsMore c (coloured id kind c)
colour_more id kind c = record {
  marks = λ b h. or_right (b == id.block) (c.marked b) h;
  to_read = λ from leaf h. elim (is_index kind) as (λ t. IsToRead (cond t (record { id = id; cursor = 0 } ∷ c.grey) c.grey) from leaf) [ true ↦ inr h | false ↦ h ];
}

pub marked_itself : (id : Puid) (kind : Kind) (c : Colours) → (coloured id kind c).marked id.block ≡ true
marked_itself id kind c = or_left (id.block == id.block) (c.marked id.block) (eq-eqb id.block id.block refl)

mark_cases : (id : Puid) (kind : Kind) (c : Colours) (b : ℕ) → (coloured id kind c).marked b ≡ true → (b ≡ id.block) ⊎ (c.marked b ≡ true)
mark_cases id kind c b h = elim (or_cases (b == id.block) (c.marked b) h) [ inl here ↦ inl (eqb-true b id.block here) | inr old ↦ inr old ]

pub grey_cases : (id : Puid) (kind : Kind) (c : Colours) (i : Puid) → IsGrey (coloured id kind c).grey i → ((id ≡ i) × (kind ≡ kinds.Index)) ⊎ IsGrey c.grey i
grey_cases id kinds.Normal c i h = inr h
grey_cases id kinds.Special c i h = inr h
grey_cases id kinds.Index c i (inl here) = inl (here, refl)
grey_cases id kinds.Index c i (inr later) = inr later

module _ (s : State) (well : IsWell s) (owed : Owed) (waiting : List Rescue) where
  colour_keeps : (id : Puid) (kind : Kind) (c : Colours) → kind_at s.graph id ≡ Some kind → WasReached s.collection id → c.marked id.block ≡ false
      → IsColoured s owed c waiting → IsColoured s owed (coloured id kind c) waiting
  colour_keeps id kind c kind_is reached new is = record {
    covered = covered;
    known = λ b m. elim (mark_cases id kind c b m) [ inl same ↦ (id, sym same, there, reached) | inr old ↦ is.known b old ];
    grey = λ i h. elim (grey_cases id kind c i h) [
      | inl two ↦ subst (λ (j : Puid). ((coloured id kind c).marked j.block ≡ true) × (kind_at s.graph j ≡ Some kinds.Index)) two.0 (marked_itself id kind c, kind_is ∙ ap Some two.1)
      | inr old ↦ let was = is.grey i old in (more.marks i.block was.0, was.1)
    ];
    once = elim (is_index kind) as (λ t. AreOnce (cond t (record { id = id; cursor = 0 } ∷ c.grey) c.grey)) [
      | true ↦ (λ grey. let marked = (is.grey id grey).0 in cc, is.once)
      | false ↦ is.once
    ];
    rescues = is.rescues;
    stands = is.stands;
  }
    where
      more : IsMore c (coloured id kind c)
      more = colour_more id kind c

      there : is_there s.graph id ≡ true
      there = kind_there (object_at s.graph id) kind kind_is

      -- an index that is grey now is to be read from its first leaf on
      from_first : (i : Puid) (leaf : ℕ) (x : Puid) → is_found s (Some i) leaf x ≡ true → i.block ≡ id.block → IsToRead (coloured id kind c).grey (Some i) leaf
      from_first i leaf x found same =
          let i_kind : kind_at s.graph i ≡ Some kinds.Index = found_kind s well i leaf x found in
          let one : id ≡ i = well.alone id i there (kind_there (object_at s.graph i) kinds.Index i_kind) (sym same) in
          let index : kind ≡ kinds.Index = same_Some _ _ (sym kind_is ∙ ap (kind_at s.graph) one ∙ i_kind) in
          subst (λ (k : Kind). IsToRead (coloured id k c).grey (Some i) leaf) (sym index) (inl (ap Some one, omega arith))

      covered : (from : Option Puid) (leaf : ℕ) (x : Puid) → is_found s from leaf x ≡ true → is_live from (coloured id kind c) ≡ true → IsCovered (coloured id kind c) waiting from leaf x ⊎ owed from leaf x
      covered from leaf x found live = elim (was_live from found live) [
        | inl was ↦ elim (is.covered from leaf x found was) [ inl is_covered ↦ inl (covered_more c (coloured id kind c) waiting from leaf x more is_covered) | inr due ↦ inr due ]
        | inr now ↦ inl (IsLeft now)
      ]
        where
          was_live : (from : Option Puid) → is_found s from leaf x ≡ true → is_live from (coloured id kind c) ≡ true → (is_live from c ≡ true) ⊎ IsToRead (coloured id kind c).grey from leaf
          was_live None found live = inl refl
          was_live (Some i) found live = elim (mark_cases id kind c i.block live) [ inl same ↦ inr (from_first i leaf x found same) | inr old ↦ inl old ]

  shade_keeps : (id : Puid) (kind : Kind) (c : Colours) → kind_at s.graph id ≡ Some kind → WasReached s.collection id → IsColoured s owed c waiting → IsColoured s owed (shaded id kind c) waiting
  shade_keeps id kind c kind_is reached is =
      elim (c.marked id.block) as (λ t. c.marked id.block ≡ t → IsColoured s owed (cond t c (coloured id kind c)) waiting) [
        | true ↦ λ old. is
        | false ↦ λ new. colour_keeps id kind c kind_is reached new is
      ] refl

-- ---- one identifier, and a list of them

pub shade_more : (kind : Option Kind) (id : Puid) (c : Colours) → IsMore c (shaded_as kind id c)
shade_more None id c = more_itself c
shade_more (Some kind) id c = elim (c.marked id.block) as (λ t. IsMore c (cond t c (coloured id kind c))) [ true ↦ more_itself c | false ↦ colour_more id kind c ]

pub all_more : (directory : List (Puid × Kind)) (ids : List Puid) (c : Colours) → IsMore c (all_shaded directory ids c)
all_more directory [] c = more_itself c
all_more directory (id ∷ ids) c = more_then c (shaded_in directory id c) (all_shaded directory ids (shaded_in directory id c)) (shade_more (kind_among directory id) id c) (all_more directory ids (shaded_in directory id c))

module _ (s : State) (directory : List (Puid × Kind)) (are : IsDirectoryOf directory s.graph) where
  -- what is there and is shaded is marked
  pub one_marked : (id : Puid) (c : Colours) → is_there s.graph id ≡ true → (shaded_in directory id c).marked id.block ≡ true
  one_marked id c there =
      let kind = there_kind (object_at s.graph id) there in
      rw (are id, kind.1) (elim (c.marked id.block) as (λ t. c.marked id.block ≡ t → (cond t c (coloured id kind.0 c)).marked id.block ≡ true) [ true ↦ λ is. is | false ↦ λ is. marked_itself id kind.0 c ] refl)

  pub all_marked : (ids : List Puid) (c : Colours) (x : Puid) → is_among x ids ≡ true → is_there s.graph x ≡ true → (all_shaded directory ids c).marked x.block ≡ true
  all_marked [] c x h there = cc
  all_marked (id ∷ ids) c x h there = elim (or_cases (same_puid x id) (is_among x ids) h) [
    | inl here ↦
        let same = same_puid_is x id here in
        (all_more directory ids (shaded_in directory id c)).marks x.block (subst (λ (y : Puid). (shaded_in directory y c).marked x.block ≡ true) same (one_marked x c there))
    | inr later ↦ all_marked ids (shaded_in directory id c) x later there
  ]

  module _ (well : IsWell s) (owed : Owed) (waiting : List Rescue) where
    pub one_keeps : (id : Puid) (c : Colours) → WasReached s.collection id → IsColoured s owed c waiting → IsColoured s owed (shaded_in directory id c) waiting
    one_keeps id c reached is = elim (kind_among directory id) as (λ k. kind_among directory id ≡ k → IsColoured s owed (shaded_as k id c) waiting) [
      | None ↦ λ none. is
      | Some kind ↦ λ found. shade_keeps s well owed waiting id kind c (sym (are id) ∙ found) reached is
    ] refl

    pub all_keep : (ids : List Puid) (c : Colours) → ((x : Puid) → is_among x ids ≡ true → WasReached s.collection x) → IsColoured s owed c waiting → IsColoured s owed (all_shaded directory ids c) waiting
    all_keep [] c reached is = is
    all_keep (id ∷ ids) c reached is =
        all_keep ids (shaded_in directory id c) (λ x h. reached x (or_right (same_puid x id) (is_among x ids) h)) (one_keeps id c (reached id (or_left (same_puid id id) (is_among id ids) (same_puid_itself id))) is)
