use Rattle.std.proofs.Common.{◌≡◌, ◌<◌, ◌+◌, ◌^◌, ℕ, length, drop, slice_get, Some, IfSome}
use Rattle.std.specs.Vec.Iter.{into_iter_items}
use Rattle.live_io.proofs.sockets.feed.udp_feeds.Given as goal

-- the feeds so far are those of the first receivers, and the other receivers are left
abbrev pub invariant-loop-receiver : goal.invariant-loop-receiver
invariant-loop-receiver g l = record {
  count : length l.feeds.items + length (into_iter_items l.receiver-iterator) ≡ length l.fn.receivers.items;
  left : drop (length l.feeds.items) l.fn.receivers.items ≡ into_iter_items l.receiver-iterator;
  sockets : (place : ℕ) → IfSome (slice_get l.feeds.items place) (λ feed. slice_get l.fn.receivers.items place ≡ Some feed.retrying.socket);
  paths : (place : ℕ) → IfSome (slice_get l.feeds.items place) (λ feed. place < 2 ^ 32 → feed.path_index ≡ place);
}
