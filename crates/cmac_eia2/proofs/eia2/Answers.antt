use Rattle.std.proofs.Common.{◌≡◌, [], ◌++◌, refl}
use Rattle.cmac_eia2.specs.State.{fed}
use Rattle.cmac_eia2.proofs.StateLemmas.{eia2_of-is}
use Rattle.cmac_eia2.proofs.eia2.Goals as goal

pub returns : goal.returns
returns c =
    let key = c.args.key.now in
    let header = c.header.result in
    let text = c.args.text.now in
    let start : c.start-cmac.result ≡ fed key [] = rw (c.start-cmac.ensures, c.new.ensures) refl in
    let mac = c.end.ensures key (header ++ text) (c.feed-2.ensures key header (c.feed.ensures key [] start)) in
    eia2_of-is key header c.args.count c.args.bearer c.args.dir text c.end.result c.header.ensures mac
