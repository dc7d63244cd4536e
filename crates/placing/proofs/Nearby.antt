-- Numbers that agree modulo a span, and which of them is nearest. Assumes nothing.
use Rattle.std.proofs.Common.{◌≡◌, ℕ, suc, ◌+◌, ◌-◌, ◌*◌, ◌/◌, ◌%◌, ◌<◌, Bool, true, false, cond, ltb, ℤ, pos, negsuc, ◌+ℤ◌, ◌-ℤ◌, ◌*ℤ◌}
use Rattle.std.proofs.Common.{Some, None, Option, ◌⊎◌, inl, inr, sym, refl, ap, ◌∙◌, subst, mod-lt, suc-mul, add-mul, div-add-mod', arith}
use lib.IntN.{ℤ_discrete}
use Rattle.std.proofs.lemmas.Int.{ints}
use Rattle.std.proofs.lemmas.Bool.{ltb-true, ltb-false, cases_order}
use Rattle.placing.specs.Nearest.{Agrees, Nearest, distance, rest, nearest, labels_apart, Found}

-- ---- agreement

-- with naturals on both sides
pub record Level (span : ℕ) (d e : ℤ) : Type 0 where
  pub more : ℕ
  pub less : ℕ
  pub meet : d +ℤ pos (more * span) ≡ e +ℤ pos (less * span)

pub level : (span : ℕ) (d e : ℤ) → Agrees span d e → Level span d e
level span d e a = by a.turns a.same
  where
    by : (k : ℤ) → d ≡ e +ℤ k *ℤ pos span → Level span d e
    by (pos n) h = record { more = 0; less = n; meet = omega (arith, ints) }
    by (negsuc n) h = record { more = suc n; less = 0; meet = omega (arith, ints) }

-- equal, or a span and more apart
pub data Apart (span : ℕ) (d e : ℤ) : Type 0 where
  equal : d ≡ e → Apart span d e
  above : (n : ℕ) → d ≡ e +ℤ pos (span + n * span) → Apart span d e
  below : (n : ℕ) → e ≡ d +ℤ pos (span + n * span) → Apart span d e

pub data Order (u v : ℕ) : Type 0 where
  level_with : u ≡ v → Order u v
  short : (m : ℕ) → v ≡ u + suc m → Order u v
  long : (m : ℕ) → u ≡ v + suc m → Order u v

pub order : (u v : ℕ) → Order u v
order u v = by (cases_order u v)
  where
    by : (u ≡ v) ⊎ ((u < v) ⊎ (v < u)) → Order u v
    by (inl e) = level_with e
    by (inr (inl l)) = short (v - suc u) (omega arith)
    by (inr (inr l)) = long (u - suc v) (omega arith)

apart_by : (span : ℕ) (d e : ℤ) (u v : ℕ) → d +ℤ pos (u * span) ≡ e +ℤ pos (v * span) → Order u v → Apart span d e
apart_by span d e u v h (level_with m) = let k = ap (λ n. n * span) m in equal (omega (arith, ints))
apart_by span d e u v h (short m is) =
    let k = ap (λ n. n * span) is ∙ add-mul u (suc m) span in
    let s = suc-mul m span in
    above m (omega (arith, ints))
apart_by span d e u v h (long m is) =
    let k = ap (λ n. n * span) is ∙ add-mul v (suc m) span in
    let s = suc-mul m span in
    below m (omega (arith, ints))

-- two that agree with a third
pub apart : (span : ℕ) (d e x : ℤ) → Agrees span d x → Agrees span e x → Apart span d e
apart span d e x a b =
    let p = level span d x a in
    let q = level span e x b in
    let s = add-mul p.more q.less span in
    let t = add-mul q.more p.less span in
    apart_by span d e (p.more + q.less) (q.more + p.less) (omega (arith, ints)) (order (p.more + q.less) (q.more + p.less))

pub agree : (span : ℕ) (d e : ℤ) (p q : ℕ) → d +ℤ pos (p * span) ≡ e +ℤ pos (q * span) → Agrees span d e
agree span d e p q h = by (order p q)
  where
    by : Order p q → Agrees span d e
    by (level_with m) = let k = ap (λ n. n * span) m in record { turns = pos 0; same = omega (arith, ints) }
    by (short m is) =
        let k = ap (λ n. n * span) is ∙ add-mul p (suc m) span in
        record { turns = pos (suc m); same = omega (arith, ints) }
    by (long m is) =
        let k = ap (λ n. n * span) is ∙ add-mul q (suc m) span in
        record { turns = negsuc m; same = omega (arith, ints) }

pub agree_back : (span : ℕ) (d e : ℤ) → Agrees span d e → Agrees span e d
agree_back span d e a = let p = level span d e a in agree span e d p.less p.more (sym p.meet)

-- ---- the nearest

pub only_one : (span : ℕ) (labels : ℤ) (gap : ℕ) (d e : ℤ) → Nearest span labels gap d → Nearest span labels gap e → d ≡ e
only_one span labels gap d e a b = by (ℤ_discrete d e)
  where
    by : Dec (d ≡ e) → d ≡ e
    by (yes p) = p
    by (no f) = absurd (omega (arith, a.nearer e b.agrees (λ p. f (sym p)), b.nearer d a.agrees f))

-- what agrees and is less than half a span from the gap
pub closest : (span : ℕ) (labels : ℤ) (gap : ℕ) (d : ℤ) → Agrees span d labels → 2 * distance d gap < span → Nearest span labels gap d
closest span labels gap d a h = record { agrees = a; nearer = λ e b other. by e other (apart span e d labels b a) }
  where
    by : (e : ℤ) → (e ≡ d → ⊥) → Apart span e d → distance d gap < distance e gap
    by e other (equal p) = absurd (other p)
    by e other (above n p) = omega (arith, ints)
    by e other (below n p) = omega (arith, ints)

lower : (span : ℕ) (d e : ℤ) → Agrees span d e → Agrees span (d -ℤ pos span) e
lower span d e a =
    let p = level span d e a in
    let s = suc-mul p.more span in
    agree span (d -ℤ pos span) e (suc p.more) p.less (omega (arith, ints))

module _ (span : ℕ) (labels : ℤ) (gap rest : ℕ) (a : Agrees span (pos (gap + rest)) labels) where
  pub after : 2 * rest < span → Nearest span labels gap (pos (gap + rest))
  after h = closest span labels gap (pos (gap + rest)) a (omega (arith, ints))

  pub before : rest < span → span < 2 * rest → Nearest span labels gap (pos (gap + rest) -ℤ pos span)
  before l h = closest span labels gap (pos (gap + rest) -ℤ pos span) (lower span (pos (gap + rest)) labels a) (omega (arith, ints))

  pub between : 0 < span → 2 * rest ≡ span → (d : ℤ) → Nearest span labels gap d → ⊥
  between p h d n = by (apart span d (pos (gap + rest)) labels n.agrees a)
    where
      by : Apart span d (pos (gap + rest)) → ⊥
      by (equal is) =
          let far = n.nearer (pos (gap + rest) -ℤ pos span) (lower span (pos (gap + rest)) labels a) (λ e. omega (arith, ints)) in
          omega (arith, ints)
      by (above m is) =
          let far = n.nearer (pos (gap + rest)) a (λ e. omega (arith, ints)) in
          omega (arith, ints)
      by (below m is) =
          let far = n.nearer (pos (gap + rest)) a (λ e. omega (arith, ints)) in
          omega (arith, ints)

-- ---- labels

pub apart_is : (unit from to : ℕ) → labels_apart unit from to ≡ pos (to * unit) -ℤ pos (from * unit)
apart_is unit from to = by (order from to)
  where
    by : Order from to → labels_apart unit from to ≡ pos (to * unit) -ℤ pos (from * unit)
    by (level_with e) =
        let z : pos to -ℤ pos from ≡ pos 0 = omega (arith, ints) in
        let k = ap (λ n. n * unit) e in
        ap (λ x. x *ℤ pos unit) z ∙ omega (arith, ints)
    by (short m e) =
        let z : pos to -ℤ pos from ≡ pos (suc m) = omega (arith, ints) in
        let k = ap (λ n. n * unit) e ∙ add-mul from (suc m) unit in
        ap (λ x. x *ℤ pos unit) z ∙ omega (arith, ints)
    by (long m e) =
        let z : pos to -ℤ pos from ≡ negsuc m = omega (arith, ints) in
        let k = ap (λ n. n * unit) e ∙ add-mul to (suc m) unit in
        ap (λ x. x *ℤ pos unit) z ∙ omega (arith, ints)

-- a gap more on both sides
raised : (span : ℕ) (labels : ℤ) (gap rest : ℕ) → Agrees span (pos rest) (labels -ℤ pos gap) → Agrees span (pos (gap + rest)) labels
raised span labels gap rest a = record { turns = a.turns; same = let h = a.same in omega (arith, ints) }

-- ---- the rest by the span

rest_agrees : (z : ℤ) (span : ℕ) → 0 < span → Agrees span (pos (rest z span)) z
rest_agrees (pos n) span h = let e = div-add-mod' n span in agree span (pos (n % span)) (pos n) (n / span) 0 (omega (arith, ints))
rest_agrees (negsuc n) span h =
    let e = div-add-mod' n span in
    let l = mod-lt n h in
    let s = suc-mul (n / span) span in
    agree span (pos (span - 1 - n % span)) (negsuc n) 0 (suc (n / span)) (omega (arith, ints))

rest_less : (z : ℤ) (span : ℕ) → 0 < span → rest z span < span
rest_less (pos n) span h = mod-lt n h
rest_less (negsuc n) span h = omega arith

-- `nearest` finds what is nearest
found_by : (span : ℕ) (labels : ℤ) (gap r : ℕ) → 0 < span → r < span → Agrees span (pos (gap + r)) labels
    → (a b : Bool) → ltb (2 * r) span ≡ a → ltb span (2 * r) ≡ b
    → Found span labels gap (cond a (Some (pos (gap + r))) (cond b (Some (pos (gap + r) -ℤ pos span)) None))
found_by span labels gap r p l a true b e f = after span labels gap r a (ltb-true (2 * r) span e)
found_by span labels gap r p l a false true e f = before span labels gap r a l (ltb-true span (2 * r) f)
found_by span labels gap r p l a false false e f =
    let lo = ltb-false (2 * r) span e in
    let hi = ltb-false span (2 * r) f in
    between span labels gap r a p (omega arith)

pub finds_nearest : (span : ℕ) (labels : ℤ) (gap : ℕ) → 0 < span → Found span labels gap (nearest span labels gap)
finds_nearest span labels gap h =
    let r = rest (labels -ℤ pos gap) span in
    found_by span labels gap r h (rest_less (labels -ℤ pos gap) span h) (raised span labels gap r (rest_agrees (labels -ℤ pos gap) span h))
    (ltb (2 * r) span) (ltb span (2 * r)) refl refl

pub some_found : (span : ℕ) (labels : ℤ) (gap : ℕ) (d : ℤ) → 0 < span → Some d ≡ nearest span labels gap → Nearest span labels gap d
some_found span labels gap d h e = subst (Found span labels gap) (sym e) (finds_nearest span labels gap h)

pub none_found : (span : ℕ) (labels : ℤ) (gap : ℕ) → 0 < span → None ≡ nearest span labels gap → (d : ℤ) → Nearest span labels gap d → ⊥
none_found span labels gap h e = subst (Found span labels gap) (sym e) (finds_nearest span labels gap h)

-- what is nearest is found
found_is : (span : ℕ) (labels : ℤ) (gap : ℕ) (d : ℤ) (o : Option ℤ) → Found span labels gap o → Nearest span labels gap d → o ≡ Some d
found_is span labels gap d None f n = absurd (f d n)
found_is span labels gap d (Some e) f n = ap Some (only_one span labels gap e d f n)

-- A number that agrees with the labels' difference and lies less than half a span from the gap is the one that is found.
pub nearest_is : (span : ℕ) (labels : ℤ) (gap : ℕ) (d : ℤ) → Agrees span d labels → 2 * distance d gap < span
    → nearest span labels gap ≡ Some d
nearest_is span labels gap d a h =
    found_is span labels gap d (nearest span labels gap) (finds_nearest span labels gap (omega arith)) (closest span labels gap d a h)

-- ---- the rest as it is computed

-- two rests of one number are the same
same_rest : (span r q : ℕ) (z : ℤ) → r < span → q < span → Agrees span (pos r) z → Agrees span (pos q) z → r ≡ q
same_rest span r q z l m a b = by (apart span (pos r) (pos q) z a b)
  where
    by : Apart span (pos r) (pos q) → r ≡ q
    by (equal e) = omega (arith, ints)
    by (above n e) = absurd (omega (arith, ints))
    by (below n e) = absurd (omega (arith, ints))

-- by remainders of what is ahead and what is behind
pub rest_computed : (span unit from to gap : ℕ) → 0 < span
    → (to * unit % span + span - (from * unit + gap) % span) % span ≡ rest (labels_apart unit from to -ℤ pos gap) span
rest_computed span unit from to gap h =
    let ahead : ℕ = to * unit in
    let behind : ℕ = from * unit + gap in
    let turn : ℕ = ahead % span + span - behind % span in
    let z : ℤ = labels_apart unit from to -ℤ pos gap in
    let e = div-add-mod' (to * unit) span in
    let f = div-add-mod' (from * unit + gap) span in
    let g = div-add-mod' (to * unit % span + span - (from * unit + gap) % span) span in
    let l = mod-lt (from * unit + gap) h in
    let d = apart_is unit from to in
    let s = add-mul (turn / span) (ahead / span) span in
    let t = add-mul 1 (behind / span) span in
    same_rest span (turn % span) (rest z span) z (mod-lt turn h) (rest_less z span h)
    (agree span (pos (turn % span)) z (turn / span + ahead / span) (1 + behind / span) (omega (arith, ints)))
    (rest_agrees z span h)

pub rest_is : (span unit from to gap s a b f g : ℕ) → 0 < span → s ≡ span → a ≡ to → b ≡ unit → f ≡ from → g ≡ gap
    → (a * b % s + s - (f * b + g) % s) % s ≡ rest (labels_apart unit from to -ℤ pos gap) span
rest_is span unit from to gap s a b f g h es ea eb ef eg = rw (es, ea, eb, ef, eg) (rest_computed span unit from to gap h)
