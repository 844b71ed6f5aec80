use Rattle.std.proofs.Common.{rules}
use Rattle.bp_desk.proofs.PostLemmas.{fresh_posts, serve_each}
use Rattle.bp_desk.proofs.matters.serve_hall.Goals as goal

pub serve_all-requires : goal.serve_all-requires
serve_all-requires g c =
    let all = fresh_posts c.args.desk.now c.args.hall.posts.items c.requires.seats in search rules

pub returns : goal.returns
returns g c =
    record {
      after = c.serve_all.new.posts.items;
      each = serve_each g.D.Door.shows c.args.connections c.args.hall.posts.items
          c.serve_all.new.posts.items c.serve_all.ensures.len c.serve_all.ensures.each;
      are = c.parted.ensures;
    }
