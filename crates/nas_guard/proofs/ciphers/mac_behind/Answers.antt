use Rattle.std.proofs.Common.{◌≡◌, [], ◌∷◌, ◌++◌, drop, refl, ap, ◌∙◌, append_assoc}
use Rattle.cmac_eia2.specs.{Cmac.cmac_of, State.fed}
use Rattle.cmac_eia2.proofs.StateLemmas.{eia2_of-is}
use Rattle.nas_guard.specs.Cipher.{mac_of}
use Rattle.nas_guard.proofs.ciphers.mac_behind.Goals as goal

pub returns : goal.returns
unfolding mac_of
returns c =
    let key = drop 16 c.args.key.now in
    let header = c.header.result in
    let first = c.args.first in
    let text = c.args.text.now in
    let start : c.start-cmac.result ≡ fed key [] = rw (c.start-cmac.ensures, c.new.ensures, c.key128.ensures) refl in
    let mac = c.end.ensures key ((header ++ first ∷ []) ++ text)
    (c.feed-3.ensures key (header ++ first ∷ []) (c.feed-2.ensures key header (c.feed.ensures key [] start))) in
    eia2_of-is key header c.args.count c.args.bearer c.args.dir (first ∷ text) c.end.result c.header.ensures
    (mac ∙ ap (cmac_of key) (append_assoc header (first ∷ []) text))
