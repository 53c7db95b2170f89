use Rattle.std.proofs.Common.{◌∙◌, take, Ok, sym, ap, refl, rules, IsTrue, false}
use Rattle.std.specs.Cmp.Lexicographic.{other_text}
use Rattle.vol_label.specs.Label as spec
use Rattle.vol_label.proofs.Labels.{says, made_is, made_spelled, told_other, without_magic, of_version}
use Rattle.vol_label.proofs.label.Label.decode.Goals as goal

-- ---- no magic

pub returns-then-not-starts_with-clause-only : goal.returns-then-not-starts_with-clause-only
returns-then-not-starts_with-clause-only c label is spelled =
    let other = other_text spec.magic (take 4 c.bytes.result.now) c.if-not-starts_with.ensures.value in
    absurd (other (sym (ap (take 4) c.bytes.ensures.bytes ∙ (says _ label is spelled).magic_stands)))

pub returns-then-not-starts_with-clause-not_volume :
    goal.returns-then-not-starts_with-clause-not_volume
returns-then-not-starts_with-clause-not_volume c =
    let other = other_text spec.magic (take 4 c.bytes.result.now) c.if-not-starts_with.ensures.value in
    (λ _. without_magic c.args.block.now (λ same. other (sym (ap (take 4) c.bytes.ensures.bytes ∙ same))), λ _. refl)

-- ---- another version

pub returns-then-not-is_version-clause-only : goal.returns-then-not-is_version-clause-only
returns-then-not-is_version-clause-only c label is spelled =
    let same = c.u32_at-found.ensures.value ∙ (says _ label is spelled).version in
    cc (c.is_version.ensures, c.if-not-is_version.true, ap spec.is_version same, is.version)

pub returns-then-not-is_version-clause-not_volume :
    goal.returns-then-not-is_version-clause-not_volume
returns-then-not-is_version-clause-not_volume c =
    let other : spec.IsOtherVersion c.args.block.now c.u32_at-found.result = search rules in
    (λ e. cc, λ no. absurd (no.no_version c.u32_at-found.result other))

-- ---- no label

pub returns-then-not-is_one-clause-only : goal.returns-then-not-is_one-clause-only
returns-then-not-is_one-clause-only c label is spelled =
    let back = made_spelled c.args.block.now label _ _ _ _ is spelled c.u32_at-found.ensures.value c.u32_at.ensures.value c.u32_at-2.ensures.value c.u32_at-3.ensures.value in
    let no : IsTrue false = c.if-not-is_one.ensures.1 back.0 in
    cc

pub returns-then-not-is_one-clause-not_volume : goal.returns-then-not-is_one-clause-not_volume
returns-then-not-is_one-clause-not_volume c = (
  λ _. of_version c.args.block.now c.u32_at-found.result c.u32_at-found.ensures.value (sym c.is_version.ensures ∙ c.if-not-is_version.false)
      (λ label is spelled.
      let back = made_spelled c.args.block.now label _ _ _ _ is spelled c.u32_at-found.ensures.value c.u32_at.ensures.value c.u32_at-2.ensures.value c.u32_at-3.ensures.value in
      let no : IsTrue false = c.if-not-is_one.ensures.1 back.0 in
      cc),
  λ _. refl,
)

pub returns-then-ne-clause-only : goal.returns-then-ne-clause-only
returns-then-ne-clause-only c label is spelled =
    let back = made_spelled c.args.block.now label _ _ _ _ is spelled c.u32_at-found.ensures.value c.u32_at.ensures.value c.u32_at-2.ensures.value c.u32_at-3.ensures.value in
    absurd (told_other c.ne.result c.encode.result c.args.block.now c.ne.ensures c.if-ne.true (c.encode.ensures ∙ sym back.1))

pub returns-then-ne-clause-not_volume : goal.returns-then-ne-clause-not_volume
returns-then-ne-clause-not_volume c = (
  λ _. of_version c.args.block.now c.u32_at-found.result c.u32_at-found.ensures.value (sym c.is_version.ensures ∙ c.if-not-is_version.false)
      (λ label is spelled.
      let back = made_spelled c.args.block.now label _ _ _ _ is spelled c.u32_at-found.ensures.value c.u32_at.ensures.value c.u32_at-2.ensures.value c.u32_at-3.ensures.value in
      told_other c.ne.result c.encode.result c.args.block.now c.ne.ensures c.if-ne.true (c.encode.ensures ∙ sym back.1)),
  λ _. refl,
)

-- ---- a label

pub returns-clause-only : goal.returns-clause-only
returns-clause-only c label is spelled =
    ap (λ l. Ok l) (made_is c.args.block.now label _ _ _ _ is spelled c.u32_at-found.ensures.value c.u32_at.ensures.value c.u32_at-2.ensures.value c.u32_at-3.ensures.value)
