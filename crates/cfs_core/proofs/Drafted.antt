-- The draft of one grant among those of all handles: changed, and gone.
use Rattle.std.proofs.Common.{◌≡◌, ◌⊎◌, inl, inr, ℕ, List, [], ◌∷◌, ◌++◌, Bool, true, false, cond, not, ◌&&◌, ◌||◌, Option, Some, None, refl, sym, ◌∙◌, ap, subst, arith, ◌==◌, filter, find, map, nat_lt, is_some, is_none}
use Rattle.std.proofs.Math.Path.{fun_ext}
use Rattle.cfs_core.proofs.Words.{and_parts, are_granted, differs, Draft, Drafting, Drafts, draws_of, eq-eqb, eqb-true, Grant, is_grant, is_normal, is_reading, IsOpen, list_all, list_all-append, list_any, may_share, nat_tests, numbers_rise, Opened, opened_as, or_from, or_parts, Puid, same_puid, Tuid, with_again, with_draft, with_draft_if, with_here, with_opened, without_draft, without_with}
use Rattle.open_table.specs.declared.grant.OpenGrant as handles
use Rattle.open_table.specs.Grants as tables
use Rattle.vol_owners.proofs.Drafts.{each_draft, with_others}
use Rattle.cfs_core.specs.Kernel.{Handle, grants_in}
use Rattle.cfs_core.specs.Handles.{is_drawn, handles_but, with_drafting}
use Rattle.cfs_core.specs.StandsFor.{AreDraftsOf, HasDraftOf, IsDraftOf, bare, drafts_of_handles, opened_if, with_opened_if}
use Rattle.ufs_model.specs.State.{draft_at, object_in}

-- ---- lists in three parts

-- where the test holds of this element alone, it alone is changed, or left out
module _ {X : Type 0} (P : X → Bool) where
  changed_none : (f : X → X) (xs : List X) → list_any P xs ≡ false → map (λ z. cond (P z) (f z) z) xs ≡ xs
  changed_none f [] none = refl
  changed_none f (z ∷ xs) none = (let two = or_parts (P z) (list_any P xs) none in rw two.0 (ap (λ zs. z ∷ zs) (changed_none f xs two.1)))

  changed_at : (f : X → X) (x : X) (ys xs : List X) → P x ≡ true → list_any P xs ≡ false → list_any P ys ≡ false → map (λ z. cond (P z) (f z) z) (xs ++ x ∷ ys) ≡ xs ++ f x ∷ ys
  changed_at f x ys [] is none rest = rw is (ap (λ zs. f x ∷ zs) (changed_none f ys rest))
  changed_at f x ys (z ∷ xs) is none rest = (let two = or_parts (P z) (list_any P xs) none in rw two.0 (ap (λ zs. z ∷ zs) (changed_at f x ys xs is two.1 rest)))

  left_none : (xs : List X) → list_any P xs ≡ false → filter (λ z. not (P z)) xs ≡ xs
  left_none [] none = refl
  left_none (z ∷ xs) none = (let two = or_parts (P z) (list_any P xs) none in rw two.0 (ap (λ zs. z ∷ zs) (left_none xs two.1)))

  left_at : (x : X) (ys xs : List X) → P x ≡ true → list_any P xs ≡ false → list_any P ys ≡ false → filter (λ z. not (P z)) (xs ++ x ∷ ys) ≡ xs ++ ys
  left_at x ys [] is none rest = rw is (left_none ys rest)
  left_at x ys (z ∷ xs) is none rest = (let two = or_parts (P z) (list_any P xs) none in rw two.0 (ap (λ zs. z ∷ zs) (left_at x ys xs is two.1 rest)))

-- ---- of an object no grant has a draft

-- then the first of them has none of it
draft_parts : (id : Puid) (x : Grant) (grants : List Grant) → draft_at (x ∷ grants) id ≡ None → (is_some x.draft ≡ true → same_puid id x.id ≡ false) × (draft_at grants id ≡ None)
draft_parts id x grants none = at (same_puid id x.id) x.draft none
  where
    at : (same : Bool) (d : Option Draft) → cond (same && is_some d) (object_in d) (draft_at grants id) ≡ None → (is_some d ≡ true → same ≡ false) × (draft_at grants id ≡ None)
    at false d none = (λ some. refl, none)
    at true None none = (λ some. cc, none)
    at true (Some d) none = cc

none_from : (id : Puid) (x : Grant) (grants : List Grant) → (is_some x.draft ≡ true → same_puid id x.id ≡ false) → draft_at grants id ≡ None → draft_at (x ∷ grants) id ≡ None
none_from id x grants other none = at (same_puid id x.id) x.draft other
  where
    at : (same : Bool) (d : Option Draft) → (is_some d ≡ true → same ≡ false) → cond (same && is_some d) (object_in d) (draft_at grants id) ≡ None
    at false d other = none
    at true None other = none
    at true (Some d) other = let no : true ≡ false = other refl in cc

-- and the core has none of it
pub core_has_none : (id : Puid) (ss : List Handle) (grants : List Grant) → grants_in ss ≡ map bare grants → draft_at grants id ≡ None → drafts_of_handles ss grants id ≡ None
core_has_none id [] grants table none = refl
core_has_none id (handle ∷ ss) [] table none = refl
core_has_none id (handle ∷ ss) (x ∷ grants) table none =
    let head : handle.grant ≡ bare x = cc in
    let tail : grants_in ss ≡ map bare grants = cc in
    let two = draft_parts id x grants none in
    at handle.drafting x.draft (λ some. ap (λ (e : handles.OpenGrant). same_puid id e.id) head ∙ two.0 some) (core_has_none id ss grants tail two.1)
  where
    at : (o : Option Drafting) (d : Option Draft) → (is_some d ≡ true → same_puid id handle.grant.id ≡ false) → drafts_of_handles ss grants id ≡ None → with_opened_if handle.grant.id (opened_if o d) (drafts_of_handles ss grants) id ≡ None
    at None d other rest = rest
    at (Some o) None other rest = rest
    at (Some o) (Some d) other rest = with_others handle.grant.id (Some (opened_as o d)) (drafts_of_handles ss grants) id (other refl) ∙ rest

-- ---- no other grant has a draft of the object of one

-- of two that may share, of which one has a draft
writes : (d : Option Draft) (reads : Bool) → (is_none d || not reads) ≡ true → is_some d ≡ true → reads ≡ false
writes None reads so some = cc
writes (Some d) false so some = refl
writes (Some d) true so some = cc

apart : (same r s : Bool) → (r ≡ false) ⊎ (s ≡ false) → (not same || (r && s)) ≡ true → same ≡ false
apart false r s write share = refl
apart true false s write share = cc
apart true true false write share = cc
apart true true true write share = elim write [ inl r_not ↦ cc | inr s_not ↦ cc ]

pub none_after : (x : Grant) (gs : List Grant) → list_all (may_share x) gs ≡ true → are_granted gs ≡ true → draft_at gs x.id ≡ None
none_after x [] share all = refl
none_after x (y ∷ gs) share all =
    let two = and_parts (may_share x y) (list_all (may_share x) gs) share in
    let rest = and_parts _ (are_granted gs) all in
    let one = and_parts (is_none y.draft || not (is_reading y.mode)) _ rest.0 in
    none_from x.id y gs (λ some. differs y.id x.id (apart (same_puid y.id x.id) (is_reading x.mode) (is_reading y.mode) (inr (writes y.draft (is_reading y.mode) one.0 some)) two.0)) (none_after x gs two.1 rest.1)

pub none_beside : (x : Grant) (gs2 gs1 : List Grant) → are_granted (gs1 ++ x ∷ gs2) ≡ true → (draft_at gs1 x.id ≡ None) × (draft_at gs2 x.id ≡ None)
none_beside x gs2 [] all =
    let two = and_parts _ (are_granted gs2) all in
    (refl, none_after x gs2 (and_parts _ (list_all (may_share x) gs2) two.0).1 two.1)
none_beside x gs2 (y ∷ gs1) all =
    let two = and_parts _ (are_granted (gs1 ++ x ∷ gs2)) all in
    let share = and_parts (is_none y.draft || not (is_reading y.mode)) (list_all (may_share y) (gs1 ++ x ∷ gs2)) two.0 in
    let later = and_parts (list_all (may_share y) gs1) (list_all (may_share y) (x ∷ gs2)) (sym (list_all-append (may_share y) gs1 (x ∷ gs2)) ∙ share.1) in
    let rest = none_beside x gs2 gs1 two.1 in
    (none_from x.id y gs1 (λ some. apart (same_puid x.id y.id) (is_reading y.mode) (is_reading x.mode) (inl (writes y.draft (is_reading y.mode) share.0 some)) (and_parts (may_share y x) _ later.1).0) rest.0, rest.1)

-- ---- drafts of lists in two parts

-- drafts of two objects come in any order
with_swap : (a b : Puid) (d e : Option Opened) (ds : Drafts) → same_puid a b ≡ false → with_draft_if a d (with_draft_if b e ds) ≡ with_draft_if b e (with_draft_if a d ds)
with_swap a b d e ds other = fun_ext (λ x. each_draft a d (with_draft_if b e ds) (λ y f. f ≡ with_draft_if b e (with_draft_if a d ds) y) (sym (with_others b e (with_draft_if a d ds) a other ∙ with_here a d ds)) x
    (λ off. ap (λ f. cond (same_puid x b) e f) (sym (with_others a d ds x off))))

-- what becomes of a draft after these, none of which is of its object
pub drafts_beside : (id : Puid) (d : Option Opened) (ss2 ts2 : List Handle) (gs2 hs2 : List Grant) → drafts_of_handles ts2 hs2 ≡ with_draft_if id d (drafts_of_handles ss2 gs2)
    → (ss1 : List Handle) (gs1 : List Grant) → grants_in ss1 ≡ map bare gs1 → draft_at gs1 id ≡ None → drafts_of_handles (ss1 ++ ts2) (gs1 ++ hs2) ≡ with_draft_if id d (drafts_of_handles (ss1 ++ ss2) (gs1 ++ gs2))
drafts_beside id d ss2 ts2 gs2 hs2 is [] [] table none = is
drafts_beside id d ss2 ts2 gs2 hs2 is [] (y ∷ gs1) table none = cc
drafts_beside id d ss2 ts2 gs2 hs2 is (z ∷ ss1) [] table none = cc
drafts_beside id d ss2 ts2 gs2 hs2 is (z ∷ ss1) (y ∷ gs1) table none =
    let head : z.grant ≡ bare y = cc in
    let tail : grants_in ss1 ≡ map bare gs1 = cc in
    let two = draft_parts id y gs1 none in
    ap (with_opened_if z.grant.id (opened_if z.drafting y.draft)) (drafts_beside id d ss2 ts2 gs2 hs2 is ss1 gs1 tail two.1)
    ∙ swap z.drafting y.draft (λ some. differs id z.grant.id (ap (λ (e : handles.OpenGrant). same_puid id e.id) head ∙ two.0 some))
  where
    rest : Drafts
    rest = drafts_of_handles (ss1 ++ ss2) (gs1 ++ gs2)

    swap : (o : Option Drafting) (e : Option Draft) → (is_some e ≡ true → same_puid z.grant.id id ≡ false) → with_opened_if z.grant.id (opened_if o e) (with_draft_if id d rest) ≡ with_draft_if id d (with_opened_if z.grant.id (opened_if o e) rest)
    swap None e other = refl
    swap (Some o) None other = refl
    swap (Some o) (Some e) other = with_swap z.grant.id id (Some (opened_as o e)) d rest (other refl)

module _ (ds : Drafts) (ss2 : List Handle) (gs2 : List Grant) where
  pub parts_have : (ss1 : List Handle) (gs1 : List Grant) → grants_in ss1 ≡ map bare gs1 → AreDraftsOf ds (ss1 ++ ss2) (gs1 ++ gs2) → AreDraftsOf ds ss1 gs1 × AreDraftsOf ds ss2 gs2
  parts_have [] [] table are = (tt, are)
  parts_have [] (y ∷ gs1) table are = cc
  parts_have (z ∷ ss1) [] table are = cc
  parts_have (z ∷ ss1) (y ∷ gs1) table are = (let tail : grants_in ss1 ≡ map bare gs1 = cc in let rest = parts_have ss1 gs1 tail are.1 in ((are.0, rest.0), rest.1))

  pub both_have : (ss1 : List Handle) (gs1 : List Grant) → AreDraftsOf ds ss1 gs1 → AreDraftsOf ds ss2 gs2 → AreDraftsOf ds (ss1 ++ ss2) (gs1 ++ gs2)
  both_have [] [] first second = second
  both_have [] (y ∷ gs1) first second = absurd first
  both_have (z ∷ ss1) [] first second = absurd first
  both_have (z ∷ ss1) (y ∷ gs1) first second = (first.0, both_have ss1 gs1 first.1 second)

-- the drafts of the others are as they were
pub others_have : (id : Puid) (e : Option Opened) (ds : Drafts) (ss : List Handle) (grants : List Grant) → grants_in ss ≡ map bare grants → draft_at grants id ≡ None → AreDraftsOf ds ss grants → AreDraftsOf (with_draft_if id e ds) ss grants
others_have id e ds [] [] table none are = tt
others_have id e ds [] (x ∷ grants) table none are = absurd are
others_have id e ds (handle ∷ ss) [] table none are = absurd are
others_have id e ds (handle ∷ ss) (x ∷ grants) table none are =
    let head : handle.grant ≡ bare x = cc in
    let tail : grants_in ss ≡ map bare grants = cc in
    let two = draft_parts id x grants none in
    (one handle.drafting x.draft (λ some. differs id handle.grant.id (ap (λ (g : handles.OpenGrant). same_puid id g.id) head ∙ two.0 some)) are.0, others_have id e ds ss grants tail two.1 are.1)
  where
    one : (drafting : Option Drafting) (d : Option Draft) → (is_some d ≡ true → same_puid handle.grant.id id ≡ false) → HasDraftOf ds handle drafting d → HasDraftOf (with_draft_if id e ds) handle drafting d
    one None None other has = tt
    one None (Some d) other has = absurd has
    one (Some drafting) None other has = absurd has
    one (Some drafting) (Some d) other has = record {
      is_open = record {
        at = has.is_open.at;
        alone = with_others id e ds handle.grant.id (other refl) ∙ has.is_open.alone;
        leaf_flags = has.is_open.leaf_flags;
        node_flags = has.is_open.node_flags;
        fresh = has.is_open.fresh;
      };
      special = has.special;
      writes = has.writes;
    }

-- ---- the place of a grant

module _ (who : ℕ) (t : Tuid) where
  -- the grant stands there with its handle, and no other was drawn with it
  pub record Place (ss : List Handle) (grants : List Grant) (handle : Handle) (x : Grant) : Type 0 where
    pub ss1 : List Handle
    pub ss2 : List Handle
    pub gs1 : List Grant
    pub gs2 : List Grant
    pub handles_are : ss ≡ ss1 ++ handle ∷ ss2
    pub grants_are : grants ≡ gs1 ++ x ∷ gs2
    pub first : grants_in ss1 ≡ map bare gs1
    pub second : grants_in ss2 ≡ map bare gs2
    pub here : handle.grant ≡ bare x
    pub mine : is_grant who t x ≡ true
    pub none_first : list_any (is_drawn t.draw) ss1 ≡ false
    pub none_second : list_any (is_drawn t.draw) ss2 ≡ false

  same_draw : (x : Grant) → is_grant who t x ≡ true → t.draw ≡ x.tuid.draw
  same_draw x is = eqb-true t.draw x.tuid.draw (test x is)
    where
      test : (y : Grant) → is_grant who t y ≡ true → (t.draw == y.tuid.draw) ≡ true
      test y h = grind (arith, nat_tests)

  later_none : (ss : List Handle) (grants : List Grant) → grants_in ss ≡ map bare grants → list_all (nat_lt t.draw) (draws_of grants) ≡ true → list_any (is_drawn t.draw) ss ≡ false
  later_none [] [] table above = refl
  later_none [] (y ∷ grants) table above = cc
  later_none (handle ∷ ss) [] table above = cc
  later_none (handle ∷ ss) (y ∷ grants) table above =
      let head : handle.grant ≡ bare y = cc in
      let tail : grants_in ss ≡ map bare grants = cc in
      let two = and_parts (nat_lt t.draw y.tuid.draw) (list_all (nat_lt t.draw) (draws_of grants)) above in
      or_from (is_drawn t.draw handle) _ (ap (λ (e : handles.OpenGrant). t.draw == e.tuid.draw) head ∙ apart t.draw y.tuid.draw two.0) (later_none ss grants tail two.1)
    where
      apart : (a b : ℕ) → nat_lt a b ≡ true → (a == b) ≡ false
      apart a b less = grind (arith, nat_tests)

  found_all : (P : ℕ → Bool) (grants : List Grant) (x : Grant) → find (is_grant who t) grants ≡ Some x → list_all P (draws_of grants) ≡ true → P x.tuid.draw ≡ true
  found_all P [] x found all = cc
  found_all P (y ∷ grants) x found all =
      let two = and_parts (P y.tuid.draw) (list_all P (draws_of grants)) all in
      elim (is_grant who t y) as (λ b. cond b (Some y) (find (is_grant who t) grants) ≡ Some x → P x.tuid.draw ≡ true) [
        | true ↦ λ h. (let same : y ≡ x = cc in ap (λ (z : Grant). P z.tuid.draw) (sym same) ∙ two.0)
        | false ↦ λ h. found_all P grants x h two.1
      ] found

  pub place_of : (ss : List Handle) (grants : List Grant) (x : Grant) → grants_in ss ≡ map bare grants → numbers_rise (draws_of grants) ≡ true → find (is_grant who t) grants ≡ Some x → (handle : Handle) × Place ss grants handle x
  place_of [] [] x table up found = cc
  place_of [] (y ∷ grants) x table up found = cc
  place_of (handle ∷ ss) [] x table up found = cc
  place_of (handle ∷ ss) (y ∷ grants) x table up found = at (λ h. place_of ss grants x tail two.1 h) (is_grant who t y) refl found
    where
      head : handle.grant ≡ bare y
      head = cc

      tail : grants_in ss ≡ map bare grants
      tail = cc

      two : (list_all (nat_lt y.tuid.draw) (draws_of grants) ≡ true) × (numbers_rise (draws_of grants) ≡ true)
      two = and_parts (list_all (nat_lt y.tuid.draw) (draws_of grants)) (numbers_rise (draws_of grants)) up

      apart : (a b : ℕ) → nat_lt a b ≡ true → (b == a) ≡ false
      apart a b less = grind (arith, nat_tests)

      at : (find (is_grant who t) grants ≡ Some x → (z : Handle) × Place ss grants z x) → (b : Bool) → is_grant who t y ≡ b → cond b (Some y) (find (is_grant who t) grants) ≡ Some x → (z : Handle) × Place (handle ∷ ss) (y ∷ grants) z x
      at later true is h =
          let same : y ≡ x = cc in
          let draw = same_draw y is in (
            handle,
            record {
              ss1 = [];
              ss2 = ss;
              gs1 = [];
              gs2 = grants;
              handles_are = refl;
              grants_are = ap (λ z. z ∷ grants) same;
              first = refl;
              second = tail;
              here = head ∙ ap bare same;
              mine = subst (λ z. is_grant who t z ≡ true) same is;
              none_first = refl;
              none_second = later_none ss grants tail (subst (λ n. list_all (nat_lt n) (draws_of grants) ≡ true) (sym draw) two.0);
            },
          )
      at later false is h =
          let p = later h in
          let draw = same_draw x p.1.mine in
          let less = found_all (nat_lt y.tuid.draw) grants x h two.0 in (
            p.0,
            record {
              ss1 = handle ∷ p.1.ss1;
              ss2 = p.1.ss2;
              gs1 = y ∷ p.1.gs1;
              gs2 = p.1.gs2;
              handles_are = ap (λ zs. handle ∷ zs) p.1.handles_are;
              grants_are = ap (λ zs. y ∷ zs) p.1.grants_are;
              first = rw (head, p.1.first) refl;
              second = p.1.second;
              here = p.1.here;
              mine = p.1.mine;
              none_first = or_from (is_drawn t.draw handle) _ (ap (λ (e : handles.OpenGrant). t.draw == e.tuid.draw) head ∙ ap (λ n. n == y.tuid.draw) draw ∙ apart y.tuid.draw x.tuid.draw less) p.1.none_first;
              none_second = p.1.none_second;
            },
          )

  -- none of these is the grant
  not_mine : (ss : List Handle) (grants : List Grant) → grants_in ss ≡ map bare grants → list_any (is_drawn t.draw) ss ≡ false → list_any (is_grant who t) grants ≡ false
  not_mine [] [] table none = refl
  not_mine [] (y ∷ grants) table none = cc
  not_mine (handle ∷ ss) [] table none = cc
  not_mine (handle ∷ ss) (y ∷ grants) table none =
      let head : handle.grant ≡ bare y = cc in
      let tail : grants_in ss ≡ map bare grants = cc in
      let two = or_parts (is_drawn t.draw handle) (list_any (is_drawn t.draw) ss) none in
      or_from (is_grant who t y) _ (apart y (ap (λ (e : handles.OpenGrant). t.draw == e.tuid.draw) (sym head) ∙ two.0)) (not_mine ss grants tail two.1)
    where
      apart : (z : Grant) → (t.draw == z.tuid.draw) ≡ false → is_grant who t z ≡ false
      apart z other = grind (arith, nat_tests)

  -- ---- the lists with it changed, and without it

  none_these : (ss : List Handle) → list_any (is_drawn t.draw) ss ≡ false → list_any (λ (handle : Handle). tables.is_session_grant who t handle.grant) ss ≡ false
  none_these [] none = refl
  none_these (handle ∷ ss) none = (let two = or_parts (is_drawn t.draw handle) (list_any (is_drawn t.draw) ss) none in or_from (tables.is_session_grant who t handle.grant) _ (apart handle.grant two.0) (none_these ss two.1))
    where
      apart : (g : handles.OpenGrant) → (t.draw == g.tuid.draw) ≡ false → tables.is_session_grant who t g ≡ false
      apart g other = grind (arith, nat_tests)

  -- ---- what has become of the drafts

  module _ (ss : List Handle) (grants : List Grant) (handle : Handle) (x : Grant) (p : Place ss grants handle x) where
    pub drawn : is_drawn t.draw handle ≡ true
    drawn = eq-eqb t.draw handle.grant.tuid.draw (same_draw x p.mine ∙ ap (λ (e : handles.OpenGrant). e.tuid.draw) (sym p.here))

    mine : tables.is_session_grant who t handle.grant ≡ true
    mine = ap (tables.is_session_grant who t) p.here ∙ p.mine

    pub with_is : (w : Option Drafting) → with_drafting t.draw w ss ≡ p.ss1 ++ record { grant = handle.grant; drafting = w } ∷ p.ss2
    with_is w = ap (with_drafting t.draw w) p.handles_are ∙ changed_at (is_drawn t.draw) (λ e. record { grant = e.grant; drafting = w }) handle p.ss2 p.ss1 drawn p.none_first p.none_second

    draft_is : (d : Draft) → with_draft who t d grants ≡ p.gs1 ++ record x { draft = Some d } ∷ p.gs2
    draft_is d = ap (with_draft who t d) p.grants_are ∙ changed_at (is_grant who t) (λ e. record e { draft = Some d }) x p.gs2 p.gs1 p.mine (not_mine p.ss1 p.gs1 p.first p.none_first) (not_mine p.ss2 p.gs2 p.second p.none_second)

    handles_left : handles_but (tables.is_session_grant who t) ss ≡ p.ss1 ++ p.ss2
    handles_left = ap (handles_but (tables.is_session_grant who t)) p.handles_are ∙ left_at (λ (e : Handle). tables.is_session_grant who t e.grant) handle p.ss2 p.ss1 mine (none_these p.ss1 p.none_first) (none_these p.ss2 p.none_second)

    grants_left : filter (λ y. not (is_grant who t y)) grants ≡ p.gs1 ++ p.gs2
    grants_left = ap (filter (λ y. not (is_grant who t y))) p.grants_are ∙ left_at (is_grant who t) x p.gs2 p.gs1 p.mine (not_mine p.ss1 p.gs1 p.first p.none_first) (not_mine p.ss2 p.gs2 p.second p.none_second)

    -- its handle goes the same once its draft was taken
    pub but_with : handles_but (tables.is_session_grant who t) (with_drafting t.draw None ss) ≡ handles_but (tables.is_session_grant who t) ss
    but_with = ap (handles_but (tables.is_session_grant who t)) (with_is None) ∙ left_at (λ (e : Handle). tables.is_session_grant who t e.grant) (record { grant = handle.grant; drafting = None }) p.ss2 p.ss1 mine (none_these p.ss1 p.none_first) (none_these p.ss2 p.none_second) ∙ sym handles_left

    module _ (are : AreDraftsOf (drafts_of_handles ss grants) ss grants) where
      abbrev ds : Drafts
      ds = drafts_of_handles ss grants

      three : AreDraftsOf ds p.ss1 p.gs1 × (HasDraftOf ds handle handle.drafting x.draft × AreDraftsOf ds p.ss2 p.gs2)
      three = parts_have ds (handle ∷ p.ss2) (x ∷ p.gs2) p.ss1 p.gs1 p.first (subst (λ zs. AreDraftsOf ds zs (p.gs1 ++ x ∷ p.gs2)) p.handles_are (subst (λ zs. AreDraftsOf ds ss zs) p.grants_are are))

      -- its handle has a draft exactly where it has one
      pub has_draft : HasDraftOf ds handle handle.drafting x.draft
      has_draft = three.1.0

      module _ (was : Drafting) (before : Draft) (drafting_is : handle.drafting ≡ Some was) (draft_was : x.draft ≡ Some before) where
        abbrev id : Puid
        id = handle.grant.id

        both : IsDraftOf ds handle.grant was before
        both = subst (λ o. HasDraftOf ds handle o (Some before)) drafting_is (subst (λ o. HasDraftOf ds handle handle.drafting o) draft_was has_draft)

        pub opened : IsOpen ds id was before
        opened = both.is_open

        pub special : is_normal before.object ≡ false
        special = both.special

        pub written : is_reading handle.grant.mode ≡ false
        written = both.writes

        module _ (alone : are_granted grants ≡ true) where
          beside : (draft_at p.gs1 id ≡ None) × (draft_at p.gs2 id ≡ None)
          beside = subst (λ (e : handles.OpenGrant). (draft_at p.gs1 e.id ≡ None) × (draft_at p.gs2 e.id ≡ None)) (sym p.here) (none_beside x p.gs2 p.gs1 (subst (λ zs. are_granted zs ≡ true) p.grants_are alone))

          whole : ds ≡ drafts_of_handles (p.ss1 ++ handle ∷ p.ss2) (p.gs1 ++ x ∷ p.gs2)
          whole = ap (λ zs. drafts_of_handles zs grants) p.handles_are ∙ ap (drafts_of_handles (p.ss1 ++ handle ∷ p.ss2)) p.grants_are

          opens : drafts_of_handles (handle ∷ p.ss2) (x ∷ p.gs2) ≡ with_opened id (opened_as was before) (drafts_of_handles p.ss2 p.gs2)
          opens = ap (λ o. with_opened_if id (opened_if o x.draft) (drafts_of_handles p.ss2 p.gs2)) drafting_is ∙ ap (λ o. with_opened_if id (opened_if (Some was) o) (drafts_of_handles p.ss2 p.gs2)) draft_was

          module _ (now : Drafting) (d : Draft) where
            abbrev it : Opened
            it = opened_as now d

            abbrev handle_now : Handle
            handle_now = record { grant = handle.grant; drafting = Some now }

            abbrev grant_now : Grant
            grant_now = record x { draft = Some d }

            pub changed_drafts : drafts_of_handles (with_drafting t.draw (Some now) ss) (with_draft who t d grants) ≡ with_opened id it ds
            changed_drafts = ap (λ zs. drafts_of_handles zs (with_draft who t d grants)) (with_is (Some now)) ∙ ap (drafts_of_handles (p.ss1 ++ handle_now ∷ p.ss2)) (draft_is d)
                ∙ drafts_beside id (Some it) (handle ∷ p.ss2) (handle_now ∷ p.ss2) (x ∷ p.gs2) (grant_now ∷ p.gs2)
                (sym (ap (with_opened id it) opens ∙ with_again id (Some it) (drafts_of_handles p.ss2 p.gs2) (Some (opened_as was before)))) p.ss1 p.gs1 p.first beside.0
                ∙ sym (ap (with_opened id it) whole)

            pub changed_have : IsDraftOf (with_opened id it ds) handle.grant now d → AreDraftsOf (with_opened id it ds) (with_drafting t.draw (Some now) ss) (with_draft who t d grants)
            changed_have is = subst (λ zs. AreDraftsOf (with_opened id it ds) zs (with_draft who t d grants)) (sym (with_is (Some now))) (subst (AreDraftsOf (with_opened id it ds) (p.ss1 ++ handle_now ∷ p.ss2)) (sym (draft_is d))
                (both_have (with_opened id it ds) (handle_now ∷ p.ss2) (grant_now ∷ p.gs2) p.ss1 p.gs1 (others_have id (Some it) ds p.ss1 p.gs1 p.first beside.0 three.0) (is, others_have id (Some it) ds p.ss2 p.gs2 p.second beside.1 three.1.1)))

          pub gone_drafts : drafts_of_handles (handles_but (tables.is_session_grant who t) ss) (filter (λ y. not (is_grant who t y)) grants) ≡ without_draft id ds
          gone_drafts = ap (λ zs. drafts_of_handles zs (filter (λ y. not (is_grant who t y)) grants)) handles_left ∙ ap (drafts_of_handles (p.ss1 ++ p.ss2)) grants_left
              ∙ drafts_beside id None (handle ∷ p.ss2) p.ss2 (x ∷ p.gs2) p.gs2
              (sym (ap (without_draft id) opens ∙ without_with id (opened_as was before) (drafts_of_handles p.ss2 p.gs2) (core_has_none id p.ss2 p.gs2 p.second beside.1))) p.ss1 p.gs1 p.first beside.0
              ∙ sym (ap (without_draft id) whole)

          pub gone_have : AreDraftsOf (without_draft id ds) (handles_but (tables.is_session_grant who t) ss) (filter (λ y. not (is_grant who t y)) grants)
          gone_have = subst (λ zs. AreDraftsOf (without_draft id ds) zs (filter (λ y. not (is_grant who t y)) grants)) (sym handles_left) (subst (AreDraftsOf (without_draft id ds) (p.ss1 ++ p.ss2)) (sym grants_left)
              (both_have (without_draft id ds) p.ss2 p.gs2 p.ss1 p.gs1 (others_have id None ds p.ss1 p.gs1 p.first beside.0 three.0) (others_have id None ds p.ss2 p.gs2 p.second beside.1 three.1.1)))
