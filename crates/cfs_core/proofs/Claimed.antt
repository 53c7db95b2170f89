-- That blocks are claimed in their order, as each layer below has it.
use Rattle.std.proofs.Common.{◌≡◌, ◌⊎◌, inl, inr, ℕ, List, [], ◌∷◌, Bool, true, false, cond, Option, Some, None, refl, sym, ◌∙◌, ap, subst, arith, ◌==◌}
use Rattle.cfs_core.proofs.Words.{and_parts, ChangesOnly, entry_in, Image, is_carried_out, is_free_entry, is_meant, is_placed, is_taken, IsLeastFree, list_all, MapEntry, nat_tests, of_drafts, of_owners, refusal_of, Reply, Request, stands_for, State}
use Rattle.claims.specs.Claims.{AreClaimed}
use Rattle.cfs_base.specs.declared.kind.Place.{Place}
use Rattle.cfs_base.specs.declared.kind.Place.TheVariants as places
use Rattle.cyl_alloc.specs.Space.{intended}
use Rattle.cyl_map.proofs.Volumes.{entry_in-with_entry_other, entry_in-with_entry_same, entry_in_table}
use Rattle.cyl_map.specs.Entry.{IsEntry}
use Rattle.cyl_map.specs.Volume.{with_entry}
use Rattle.cyl_map.specs.declared.state.BlockState.{BlockState}
use Rattle.cyl_map.specs.declared.state.BlockState.TheVariants as states
use Rattle.file_ops.specs.Changes.{ClaimsBeside}
use Rattle.index_ops.specs.Changes as ops
use Rattle.special_files.specs.Committing.{TakesShadow}
use Rattle.special_files.specs.Order.{ClaimsAndDrops}
use Rattle.ufs_model.specs.Refusal.{conditions, first_of, target}
use Rattle.vol_owners.specs.Change.{IsOpenTo}
use Rattle.vol_owners.specs.Owner.{is_owned_by}
use Rattle.std.proofs.lemmas.Bool.{cases_eq}
use Rattle.cfs_core.specs.Claimed.{ClaimsInOrder, ClaimsStay, TakesForRequest, claims_for, commits_alone, is_set_size, owners_of, root_reached}
use Rattle.cfs_core.specs.Commits.{commits}
use Rattle.cfs_core.specs.Kernel.{Handle}
use Rattle.ufs_model.specs.declared.asked.Request.TheVariants as asks

-- ---- what is refused isn't done

undone_first : (cs : List (Bool × Reply)) (reply : Reply) → list_all (λ c. cond (is_carried_out c.1) false true) cs ≡ true → first_of cs ≡ Some reply → is_carried_out reply ≡ false
undone_first [] reply all is = cc
undone_first (c ∷ cs) reply all is =
    let two = and_parts (cond (is_carried_out c.1) false true) _ all in
    elim c.0 as (λ b. cond b (Some c.1) (first_of cs) ≡ Some reply → is_carried_out reply ≡ false) [
      | true ↦ λ here. let same : c.1 ≡ reply = cc in ap is_carried_out (sym same) ∙ flipped (is_carried_out c.1) two.0
      | false ↦ λ rest. undone_first cs reply two.1 rest
    ] is
  where
    flipped : (b : Bool) → cond b false true ≡ true → b ≡ false
    flipped true h = cc
    flipped false h = refl

pub refused_undone : (s : State) (who : ℕ) (request : Request) (reply : Reply) → refusal_of s who request ≡ Some reply → is_carried_out reply ≡ false
refused_undone s who request reply is = undone_first (conditions s who request) reply refl is

-- ---- entries that may change

meant_taken : (state : BlockState) → is_meant state ≡ true → is_taken state ≡ true
meant_taken states.Free is = cc
meant_taken states.Allocated is = cc
meant_taken states.IntendAllocate is = refl
meant_taken states.IntendDeallocate is = cc

meant_open : (r : ℕ) (rs : List ℕ) (entry : Option MapEntry) → is_owned_by is_meant r entry ≡ true → IsOpenTo (of_owners (r ∷ rs)) entry
meant_open r rs None is = cc
meant_open r rs (Some e) is =
    let two = and_parts _ (r == e.owner) is in
    let three = and_parts (is_meant e.state) _ two.0 in
    let taken = meant_taken e.state three.0 in
    let placed : is_placed is_taken (Some e) ≡ true = rw (taken, three.1) refl in
    inr (placed, rw (taken, three.1, two.1) refl)

owned_open : (rs : List ℕ) (entry : Option MapEntry) → IsOpenTo (of_drafts rs) entry → IsOpenTo (of_owners rs) entry
owned_open rs entry (inl free) = inl free
owned_open rs entry (inr two) = inr (two.0, rw two.0 (and_parts _ _ two.1).1)

-- ---- images

-- nothing is
pub claims_none : {drops : Bool} (owners : List ℕ) (a b : Image) → b ≡ a → ClaimsStay drops [] owners a b
claims_none owners a b same = record {
  order = record { mid = a; in_order = λ m. refl; rest = λ n. inl (ap (λ i. entry_in i n) same) };
  kept = λ _ n other. absurd (other refl);
}

-- only blocks of owners change, as where a draft is committed
pub claims_only : {drops : Bool} (owners : List ℕ) (a b : Image) → ChangesOnly (of_owners owners) a b → ClaimsStay drops [] owners a b
claims_only owners a b only = record {
  order = record { mid = a; in_order = λ m. refl; rest = only.entries };
  kept = λ _ n other. absurd (other refl);
}

-- or what is meant for them
pub claims_meant : {drops : Bool} (owners : List ℕ) (a b : Image) → ChangesOnly (of_drafts owners) a b → ClaimsStay drops [] owners a b
claims_meant owners a b only = record {
  order = record { mid = a; in_order = λ m. refl; rest = λ n. at n (only.entries n) };
  kept = λ _ n other. absurd (other refl);
}
  where
    at : (n : ℕ) → (entry_in b n ≡ entry_in a n) ⊎ (IsOpenTo (of_drafts owners) (entry_in a n) × IsOpenTo (of_drafts owners) (entry_in b n))
        → (entry_in b n ≡ entry_in a n) ⊎ (IsOpenTo (of_owners owners) (entry_in a n) × IsOpenTo (of_owners owners) (entry_in b n))
    at n (inl same) = inl same
    at n (inr two) = inr (owned_open owners (entry_in a n) two.0, owned_open owners (entry_in b n) two.1)

-- blocks are claimed, and the object with this root block is committed
pub record Commits (claims : List MapEntry) (owners : List ℕ) (at : ℕ) (a b : Image) : Type 0 where
  pub order : ClaimsInOrder claims owners a b
  pub shadow : TakesShadow at order.mid b

-- one that commits nothing is no commit of its own
pub alone_not : (s : State) (who : ℕ) (request : Request) → commits s who request ≡ false → commits_alone s who request ≡ false
alone_not s who (asks.Close t commit) none = refl
alone_not s who request none = none

-- a request that isn't a commit of its own
pub takes_alone : (handles : List Handle) (s : State) (who : ℕ) (request : Request) (reply : Reply) (a b : Image) → commits_alone s who request ≡ false → ClaimsStay (is_set_size request) (claims_for handles s who request reply) (owners_of s who request reply) a b
    → TakesForRequest handles s who request reply a b
takes_alone handles s who request reply a b none stay = record { order = stay.order; shadow = λ yes. let no : true ≡ false = sym yes ∙ none in cc; kept = λ _. stay.kept }

-- and one that is
pub takes_last : (handles : List Handle) (s : State) (who : ℕ) (request : Request) (reply : Reply) (a b : Image) (claims : List MapEntry) (owners : List ℕ) (at : ℕ) → claims_for handles s who request reply ≡ claims → owners_of s who request reply ≡ owners
    → root_reached s who (target request) ≡ at → commits_alone s who request ≡ true → Commits claims owners at a b → TakesForRequest handles s who request reply a b
takes_last handles s who request reply a b claims owners at same_claims same_owners same_root alone is =
    let x = subst (λ (cs : List MapEntry). Commits cs (owners_of s who request reply) (root_reached s who (target request)) a b) (sym same_claims)
    (subst (λ (ns : List ℕ). Commits claims ns (root_reached s who (target request)) a b) (sym same_owners) (subst (λ (n : ℕ). Commits claims owners n a b) (sym same_root) is)) in
    record { order = x.order; shadow = λ yes. x.shadow; kept = λ none. let no : true ≡ false = sym alone ∙ none in cc }

-- nothing changes afterwards
pub claims_all : {drops : Bool} (claims : List MapEntry) (owners : List ℕ) (a b : Image) → AreClaimed claims a b → ClaimsStay drops claims owners a b
claims_all claims owners a b is = record { order = record { mid = b; in_order = is; rest = λ n. inl refl }; kept = λ _ n other. refl }

-- an index is
pub claims_then : (claims : List MapEntry) (at : ℕ) (made : List ℕ) (a b : Image) → ops.TakesEntries claims at made a b → Commits claims (at ∷ made) at a b
claims_then claims at made a b takes = record {
  order = record { mid = takes.mid; in_order = takes.in_order; rest = takes.only.entries };
  shadow = takes.shadow;
}

-- what a draft drops is Free
module _ (owner : ℕ) (claims : List MapEntry) (a b : Image) (is : ClaimsAndDrops owner claims a b) where
  pub claims_dropped : ClaimsStay true claims (owner ∷ []) a b
  claims_dropped = record { order = record { mid = is.mid; in_order = is.claimed; rest = λ n. at n (is.left n) }; kept = λ none. let no : true ≡ false = none in cc }
    where
      at : (n : ℕ) → (entry_in b n ≡ entry_in is.mid n) ⊎ ((is_owned_by is_meant owner (entry_in is.mid n) ≡ true) × (is_free_entry (entry_in b n) ≡ true))
          → (entry_in b n ≡ entry_in is.mid n) ⊎ (IsOpenTo (of_owners (owner ∷ [])) (entry_in is.mid n) × IsOpenTo (of_owners (owner ∷ [])) (entry_in b n))
      at n (inl same) = inl same
      at n (inr two) = inr (meant_open owner [] (entry_in is.mid n) two.0, inl two.1)

-- a special file is changed beside itself
pub claims_put : (owner : ℕ) (claims : List MapEntry) (a b : Image) → ClaimsBeside owner claims a b → Commits claims (owner ∷ []) owner a b
claims_put owner claims a b is = record {
  order = record { mid = is.mid; in_order = is.in_order; rest = is.only.entries };
  shadow = is.shadow;
}

-- ---- the shadow root of a draft that is begun

-- its entry, of the table, is that of such a claim
shadow_entry : (state : BlockState) (committed : Bool) (place : Option Place) (owner r : ℕ) → IsEntry (record { state = state; committed = committed; place = place; owner = owner })
    → stands_for r (Some (record { state = state; committed = committed; place = place; owner = owner })) ≡ true → record { state = state; committed = committed; place = place; owner = owner } ≡ intended places.ShadowRoot r
shadow_entry states.Free committed place owner r in_table is = cc
shadow_entry states.Allocated committed place owner r in_table is = cc
shadow_entry states.IntendDeallocate committed place owner r in_table is = cc
shadow_entry states.IntendAllocate committed None owner r in_table is = cc
shadow_entry states.IntendAllocate committed (Some places.Root) owner r in_table is = cc
shadow_entry states.IntendAllocate committed (Some (places.Node n)) owner r in_table is = cc
shadow_entry states.IntendAllocate committed (Some (places.Leaf n)) owner r in_table is = cc
shadow_entry states.IntendAllocate committed (Some (places.Span n)) owner r in_table is = cc
shadow_entry states.IntendAllocate true (Some places.ShadowRoot) owner r in_table is = let no : false ≡ true = in_table.in_table in cc
shadow_entry states.IntendAllocate false (Some places.ShadowRoot) owner r in_table is = let same : owner ≡ r = grind (arith, nat_tests) in ap (intended places.ShadowRoot) same

module _ (r s : ℕ) (a b : Image) (least : IsLeastFree a s) (stands : stands_for r (entry_in b s) ≡ true) (only : ChangesOnly (of_drafts (r ∷ [])) a b) where
  abbrev e : MapEntry
  e = intended places.ShadowRoot r

  here_now : (o : Option MapEntry) → entry_in b s ≡ o → stands_for r o ≡ true → (o ≡ Some e) × IsEntry e
  here_now None is h = cc
  here_now (Some x) is h =
      let in_table = entry_in_table b s x is in
      let same = shadow_entry x.state x.committed x.place x.owner r in_table h in
      (ap (λ y. Some y) same, subst IsEntry same in_table)

  was : (o : Option MapEntry) → is_free_entry o ≡ true → (x : MapEntry) × (o ≡ Some x)
  was None free = cc
  was (Some x) free = (x, refl)

  pub claims_shadow : {drops : Bool} → ClaimsStay drops (e ∷ []) (r ∷ []) a b
  unfolding claims_meant
  claims_shadow =
      let now = here_now (entry_in b s) refl stands in
      let old = was (entry_in a s) least.free in
      let here = entry_in-with_entry_same a s e old.0 old.1 now.1 in
      record {
        order = record {
          mid = with_entry a s e;
          in_order = (
            with_entry a s e,
            record {
              block = s;
              least = least;
              here = here;
              others = λ m other. entry_in-with_entry_other a s e old.0 m old.1 other;
            },
            λ m. refl,
          );
          rest = λ n. elim (cases_eq n s) [
            | inl same ↦ inl (ap (entry_in b) same ∙ now.0 ∙ sym (ap (entry_in (with_entry a s e)) same ∙ here))
            | inr other ↦ (
                let apart = entry_in-with_entry_other a s e old.0 n old.1 other in
                subst (λ (o : Option MapEntry). (entry_in b n ≡ o) ⊎ (IsOpenTo (of_owners (r ∷ [])) o × IsOpenTo (of_owners (r ∷ [])) (entry_in b n))) (sym apart) ((claims_meant {drops = true} (r ∷ []) a b only).order.rest n)
                )
          ];
        };
        kept = λ _ n other. elim (cases_eq n s) [
          | inl same ↦ ap (entry_in b) same ∙ now.0 ∙ sym (ap (entry_in (with_entry a s e)) same ∙ here)
          | inr apart ↦ absurd (other (entry_in-with_entry_other a s e old.0 n old.1 apart))
        ];
      }
