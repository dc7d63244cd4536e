-- Labels that tell the times that packets were made for. Assumes nothing.
use Rattle.std.proofs.Common.{◌≡◌, ℕ, ◌+◌, ◌-◌, ◌*◌, ◌/◌, ◌%◌, pos, ◌-ℤ◌, ap, mul_assoc, add-mul, div-add-mod', arith}
use Rattle.std.proofs.lemmas.Int.{ints}
use Rattle.placing.specs.Nearest.{Agrees, labels_apart}
use Rattle.placing.specs.Arrivals.{Point, Tells, StampsTell, LabelsTell, PlacedWhereMade}
use Rattle.placing.proofs.Nearby.{level, agree, apart_is, nearest_is}

pub stamps_tell : StampsTell
stamps_tell x is =
    let e = div-add-mod' x.time 16384 in
    agree 16384 (pos (x.label * 1)) (pos x.time) (x.time / 16384) 0 (omega (arith, ints))

pub labels_tell : LabelsTell
labels_tell width interval first x begins whole is =
    let n = x.time / interval in
    let e1 = div-add-mod' x.time interval in
    let e2 = div-add-mod' n width in
    let e3 = div-add-mod' first width in
    let full : first / width * width ≡ first = omega arith in
    let m1 = ap (λ k. k * interval) e2 in
    let m2 = add-mul (n / width * width) (n % width) interval in
    let m3 = mul_assoc (n / width) width interval in
    let m4 = ap (λ k. k * interval) full in
    let m5 = mul_assoc (first / width) width interval in
    let m6 = ap (λ k. k * interval) is in
    let m7 = add-mul first (n % width) interval in
    agree (width * interval) (pos (x.label * interval)) (pos x.time) (n / width) (first / width) (omega (arith, ints))

-- two labels tell the time between
between : (span unit : ℕ) (y x : Point) → Tells span unit y → Tells span unit x
    → Agrees span (pos x.time -ℤ pos y.time) (labels_apart unit y.label x.label)
between span unit y x a b =
    let p = level span (pos (y.label * unit)) (pos y.time) a in
    let q = level span (pos (x.label * unit)) (pos x.time) b in
    let l = apart_is unit y.label x.label in
    let s = add-mul q.less p.more span in
    let t = add-mul q.more p.less span in
    agree span (pos x.time -ℤ pos y.time) (labels_apart unit y.label x.label) (q.less + p.more) (q.more + p.less) (omega (arith, ints))

pub placed_where_made : PlacedWhereMade
placed_where_made span unit y x ty tx order ages =
    nearest_is span (labels_apart unit y.label x.label) (x.arrival - y.arrival) (pos x.time -ℤ pos y.time) (between span unit y x ty tx)
    (omega (arith, ints))
