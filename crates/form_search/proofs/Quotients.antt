-- Quotients of plain numbers.
use Rattle.std.proofs.Common.{◌≡◌, ℕ, ◌+◌, ◌*◌, ◌/◌, ◌%◌, ◌<◌, ◌≤◌, rules}

pub exact_quotient : (x scale : ℕ) → 0 < scale → x % scale ≡ 0 → (x / scale) * scale ≡ x
exact_quotient x scale some whole = search rules

pub small_quotient : (x scale : ℕ) → 0 < scale → x ≤ 65535 * scale → x / scale ≤ 65535
small_quotient x scale some most = search rules

pub quotient_below : (x scale : ℕ) → 0 < scale → (x % scale ≡ 0 → ⊥) → (x / scale) * scale < x
quotient_below x scale some part = search rules

pub quotient_next : (x scale : ℕ) → 0 < scale → x < (x / scale + 1) * scale
quotient_next x scale some = search rules
