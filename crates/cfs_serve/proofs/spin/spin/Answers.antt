use Rattle.std.proofs.Common.{◌≡◌, ◌≤◌, ℕ, List, [], ◌∷◌, length, map, slice_get, Some, ap, refl, sym, subst, arith, ◌∙◌}
use Rattle.cfs_serve.proofs.Cited.{HasScript, HaveScripts, Supply, drain, drains, drawn_scripts, drawn_sources, new_ground, option_map, slice_get-map, source_of}
use Rattle.cfs_serve.proofs.Logs.{some_same}
use Rattle.cfs_serve.proofs.Spinning.{Lines, Short, drawn_lines, few_bytes}
use Rattle.cfs_serve.proofs.Volumes.{never_rose, script_run}
use Rattle.cfs_serve.proofs.spin.spin.Goals as goal

-- what was drawn is what the sources have
have : (lines : Lines) (short : Short) (seed count : ℕ) → count ≤ 5370 → HaveScripts (drawn_sources seed count) (drawn_scripts seed count)
have lines short seed count few = record {
  first = record { count = omega arith; each = has };
  all = refl;
  few = (let all = drawn_lines lines short seed count in omega (arith, all, few));
}
  where
    has : (k : ℕ) (source : Supply) (text : List ℕ) → slice_get (drawn_sources seed count) k ≡ Some source → slice_get (drawn_scripts seed count) k ≡ Some text → HasScript source text
    has k source text there here =
        let is : source_of text ≡ source = some_same _ _ (sym (slice_get-map source_of (drawn_scripts seed count) k ∙ ap (option_map source_of) here) ∙ there) in
        subst (λ (s : Supply). HasScript s text) is (record { whole = λ left same. some_same text left same; short = few_bytes lines short seed count few k text here })

-- four sinks that keep nothing
all_drains : {X : Type 0} (xs : List X) → length xs ≡ 4 → map (λ (_ : X). drain) xs ≡ drains
all_drains [] is = absurd (omega (arith, is))
all_drains (a ∷ []) is = absurd (omega (arith, is))
all_drains (a ∷ b ∷ []) is = absurd (omega (arith, is))
all_drains (a ∷ b ∷ c ∷ []) is = absurd (omega (arith, is))
all_drains (a ∷ b ∷ c ∷ d ∷ []) is = refl
all_drains (a ∷ b ∷ c ∷ d ∷ e ∷ xs) is = absurd (omega (arith, is))

pub returns : goal.returns
returns g c =
    let seed = c.args.asked.seed in
    let count = c.args.asked.count in
    let few : count ≤ 5370 = omega (arith, c.args.asked.sized.1, c.args.asked.fits) in
    let law = c.scripts_have_so_many_lines.ensures in
    let new = c.in-Some-new_volume.ensures in
    let result = c.serve_scripts-played.result in
    let four : length c.in-Ok.sinks.items ≡ 4 = ap length c.in-Ok.ensures.items in
    let before = all_drains c.in-Ok.sinks.items four in
    let after = all_drains c.serve_scripts-played.new.sinks.items (c.serve_scripts-played.ensures.count ∙ four) in
    record {
      sources = refl;
      sinks = refl;
      run = script_run _ c.in-Some-new_volume.core (drawn_scripts seed count) (drawn_sources seed count) (drawn_sources seed count) drains drains result.0.report result.0.ending result.0.trail.events result.0.trail.moments result.1
          (new_ground c.args.asked.cylinders seed) seed 2 ⊥ (have law.lines law.short seed count few) (λ u. u) (ap (λ w. w.seed) new.words) new.size (λ graph is. rw is new.stands) never_rose
          (rw (c.in-Some.ensures.scripts, before, after) at c.serve_scripts-played.ensures.served);
    }
