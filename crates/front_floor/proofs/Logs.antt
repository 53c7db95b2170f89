-- Logs that grow, and what was heard of them.
use Rattle.std.proofs.Common.{◌≡◌, ℕ, suc, ◌+◌, ◌≤◌, ◌==◌, List, [], ◌∷◌, ◌++◌, length, refl, ap, sym, ◌∙◌, subst, arith, append_assoc, length-append, inl, inr}
use Rattle.std.proofs.lemmas.List.{append-nil}
use Rattle.std.specs.Prelude.{if◌then◌else◌}
use mathlib.Core.List.{IsPrefix}
use Rattle.front_floor.specs.declared.view.LogView.{LogView}
use Rattle.front_floor.specs.Knows.{PlacesRise, Fits, Grows, nothing}

pub rise_wider : (a : ℕ) (places : List ℕ) (b c : ℕ) → PlacesRise a places b → b ≤ c → PlacesRise a places c
rise_wider a [] b c r le = omega (arith, r)
rise_wider a (p ∷ ps) b c r le = (r.0, rise_wider (suc p) ps b c r.1 le)

pub rise_more : (a : ℕ) (places : List ℕ) (b c : ℕ) → PlacesRise a places b → b ≤ c → PlacesRise a (places ++ c ∷ []) (suc c)
rise_more a [] b c r le = (omega (arith, r), omega arith)
rise_more a (p ∷ ps) b c r le = (r.0, rise_more (suc p) ps b c r.1 le)

module _ {E : Type 0} where
  pub prefix_self : (xs : List E) → IsPrefix xs xs
  prefix_self xs = ([], append-nil xs)

  pub prefix_longer : (xs ys zs : List E) → IsPrefix xs ys → IsPrefix xs (ys ++ zs)
  prefix_longer xs ys zs p = (p.0 ++ zs, sym (append_assoc xs p.0 zs) ∙ ap (λ w. w ++ zs) p.1)

  pub fits_longer : (log more : List E) (heard : LogView E) → Fits log heard → Fits (log ++ more) heard
  fits_longer log more heard f = record {
    begins = prefix_longer heard.seen log more f.begins;
    mine = f.mine;
    told = f.told;
    known = omega (arith, f.known, length-append log more);
  }

  pub fits_nothing : (log : List E) → Fits log nothing
  fits_nothing log = record { begins = (log, refl); mine = omega arith; told = omega arith; known = omega arith }

  pub grown_by : (before after : List E) (added : ℕ) → Grows before after added → length after ≡ length before + added
  grown_by before after added (inl g) = omega (arith, ap length g.0, g.1)
  grown_by before after added (inr g) = omega (arith, ap length g.1, length-append before (g.0 ∷ []), g.2)

  pub grown_from : (before after : List E) (added : ℕ) → Grows before after added → IsPrefix before after
  grown_from before after added (inl g) = subst (IsPrefix before) (sym g.0) (prefix_self before)
  grown_from before after added (inr g) = subst (IsPrefix before) (sym g.1) (prefix_longer before before (g.0 ∷ []) (prefix_self before))

  pub fits_grown : (before after : List E) (added : ℕ) → Grows before after added → (heard : LogView E) → Fits before heard → Fits after heard
  fits_grown before after added g heard f =
      let p = grown_from before after added g in
      subst (λ (log : List E). Fits log heard) p.1 (fits_longer before p.0 heard f)

  pub prefix_length : (xs ys : List E) → IsPrefix xs ys → length xs ≤ length ys
  prefix_length xs ys p = omega (arith, ap length p.1, length-append xs p.0)

  -- what is heard once the log was counted
  pub heard_so : (before after : List E) (added : ℕ) (seen : List E) (mine : List ℕ) (n : ℕ) → n ≡ length before → Grows before after added → IsPrefix seen before → PlacesRise 0 mine (length seen)
      → Fits after (record { seen = after; mine = mine ++ (if added == 1 then n ∷ [] else []); known = length after })
  heard_so before after added seen mine n at g begins rise =
      record { begins = prefix_self after; mine = by_kind g; told = omega arith; known = omega arith }
    where
      long : length after ≡ length before + added
      long = grown_by before after added g

      by_kind : Grows before after added → PlacesRise 0 (mine ++ (if added == 1 then n ∷ [] else [])) (length after)
      by_kind (inl x) =
          let R : ℕ → Type 0 = λ a. PlacesRise 0 (mine ++ (if a == 1 then n ∷ [] else [])) (length after) in
          subst R (sym x.1) (subst (λ (ps : List ℕ). PlacesRise 0 ps (length after)) (sym (append-nil mine)) (rise_wider 0 mine (length seen) (length after) rise (omega (arith, prefix_length seen before begins, long))))
      by_kind (inr x) =
          let R : ℕ → Type 0 = λ a. PlacesRise 0 (mine ++ (if a == 1 then n ∷ [] else [])) (length after) in
          subst R (sym x.2) (subst (PlacesRise 0 (mine ++ n ∷ [])) (sym (omega (arith, long, at, x.2))) (rise_more 0 mine (length seen) n rise (omega (arith, prefix_length seen before begins, at))))
