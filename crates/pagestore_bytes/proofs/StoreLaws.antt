-- Bytes copied into a part of a list stand where they are put. Assumes nothing.
use Rattle.std.proofs.Common.{◌≡◌, List, ℕ, ◌+◌, ◌-◌, ◌≤◌, length, arith}
use borrow.Rule.Slice.PartMut.{put_mid, Post-is}
use Rattle.pagestore_bytes.specs.Bytes.{put}
use Rattle.pagestore_bytes.specs.ByteLaws.{put_eq}

pub part_put : (s ys vs : List ℕ) (at n : ℕ) → at + n ≤ length s → length vs ≡ n → ys ≡ vs → put_mid at (at + n - at) s ys ≡ put s at vs
part_put s ys vs at n h l e = rw (Post-is at (at + n) s (omega arith), put_eq s at vs (omega arith), e, l)
