-- What is told, with its news changed. Assumes nothing.
use Rattle.std.specs.Prelude.{◌≡◌}
use Rattle.placing.specs.declared.stream.Novelty.{Novelty}
use Rattle.placing.specs.declared.stream.Novelty.TheVariants.{News, Repeat, Late}

-- where it is news, it is so
abbrev pub IfNews : {T : Type 0} → Novelty T → (T → Type 0) → Type 0
IfNews (News x) So = So x
IfNews Repeat So = Unit {0}
IfNews Late So = Unit {0}

-- news becomes other news in this way, and all else stays
abbrev pub Changed : {T U : Type 0} → (T → U → Type 0) → Novelty T → Novelty U → Type 0
Changed So (News x) r = (y : _) × (r ≡ News y) × So x y
Changed So Repeat r = r ≡ Repeat
Changed So Late r = r ≡ Late
