use Rattle.std.proofs.Common.{◌≡◌, ◌∷◌, ◌++◌, ◌+◌, ◌<◌, ◌^◌, [], length, drop, Some, sym, ap, subst, ◌∙◌, arith, add-one, length-append}
use Rattle.std.specs.Vec.Iter.{into_iter_items}
use Rattle.live_io.proofs.FeedLemmas.{drop_next, each_more, next_of_drop}
use Rattle.live_io.proofs.sockets.feed.udp_feeds.Goals as goal

pub loop-receiver-preserved : goal.loop-receiver-preserved
loop-receiver-preserved g c =
    let at = c.loop-receiver in
    let feeds = at.feeds.items in
    let all = c.args.receivers.items in
    let receiver = c.in-Some.receiver in
    let rest = into_iter_items c.next.new.self in
    let behind : drop (length feeds) all ≡ receiver ∷ rest = at.invariant.left ∙ c.in-Some.ensures.steps.0 in
    let pushed : c.push.new.self.items ≡ feeds ++ c.new.result ∷ [] = c.in_ok-push.ensures.items in
    let longer : length (feeds ++ c.new.result ∷ []) ≡ length feeds + 1 = length-append feeds (c.new.result ∷ []) in
    let count = at.invariant.count in
    let gone = ap length c.in-Some.ensures.steps.0 in
    let is = c.len-path_index.ensures in
    let long = at.feeds.ok.0 in
    let number : c.len-path_index.result ≡ length feeds = omega (arith, is, long) in
    rw pushed (record {
      count = omega (arith, longer, count, gone);
      left = subst (λ n. drop n all ≡ rest) (sym (longer ∙ add-one (length feeds))) (drop_next (length feeds) all receiver rest behind);
      sockets = each_more _ feeds c.new.result at.invariant.sockets (next_of_drop (length feeds) all receiver rest behind ∙ ap Some (sym c.new.ensures.socket));
      paths = each_more _ feeds c.new.result at.invariant.paths (λ few. c.new.ensures.path (subst (λ n. n < 2 ^ 32) (sym number) few) ∙ number);
    })
