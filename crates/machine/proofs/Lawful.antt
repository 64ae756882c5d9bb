-- Both cores keep the law; and seals and checks by computing.
use Rattle.std.proofs.Common.{◌≡◌, refl, rules}
use Rattle.a64.specs.declared.inst.Key.{Key}
use Rattle.machine.specs.Cores.{seal_of, check_of, CoresLawful}

pub each_core_lawful : CoresLawful
each_core_lawful = search rules

-- seals and checks worked out elsewhere
sealed_1 : (seal_of Key.A 220209379386688 16526939517197372124 ≡ 2679778037916650204) × (check_of Key.A 220209379386688 2679778037908261596 ≡ 136259622816476)
sealed_1 = (refl, refl)

sealed_2 : (seal_of Key.B 18446744073709551615 222413576339044285 ≡ 4016414787421976509) × (check_of Key.B 18446744073709551615 4016414787421976509 ≡ 48344737626045)
sealed_2 = (refl, refl)

sealed_3 : (seal_of Key.A 16 11551444009340554388 ≡ 5518590833501064340) × (check_of Key.A 16 11551444009340554388 ≡ 9223645951943429268)
sealed_3 = (refl, refl)

sealed_4 : (seal_of Key.B 0 0 ≡ 281474976710656) × (check_of Key.B 0 0 ≡ 9223372036854775808)
sealed_4 = (refl, refl)

sealed_5 : (seal_of Key.A 18446744073709551600 0 ≡ 9223090561878065152) × (check_of Key.A 18446744073709551600 9223090561878065152 ≡ 0)
sealed_5 = (refl, refl)
